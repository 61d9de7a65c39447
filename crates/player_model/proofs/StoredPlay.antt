-- The player of a stored list goes round its outputs.
use Rattle.std.proofs.Common.{◌≡◌, ℕ, ◌*◌, ◌<◌, inl, inr, Bool, if◌then◌else◌, List, ℤ, pos, sym, ap, ◌∙◌, arith}
use Rattle.std.specs.Prelude.{Option, Some, None}
use Rattle.std.proofs.lemmas.Bool.{cases_lt, lt-ltb, le-ltb}
use Rattle.std.proofs.lemmas.List.{get_or_past}
use Rattle.adpcm_nums.specs.Round.{round_place, round_of}
use Rattle.adpcm_nums.proofs.RoundLaws.{round_place-le}
use Rattle.machine_core.specs.declared.state.State.{State}
use Rattle.machine_core.specs.Decoder.{Decoder}
use Rattle.machine_core.specs.Blocks.{Blocks, output_at}
use Rattle.player_model.specs.Format.{Format}
use Rattle.player_model.specs.Player.{play}
use Rattle.player_model.specs.Track.{Track}
use Rattle.player_model.specs.Looped.{BeginsAnew, AreOutputs, points_of, loop_points, round_output}
use Rattle.player_model.proofs.Passes.{points-ordered, some-samples, round-holds, once-holds}
use Rattle.player_model.proofs.StoredTracks.{IsStoredList, stored-keeps, stored-track, repeats-stored, register-stored}

-- what is played is the list's outputs, and then its loop for ever or silence
pub stored-play : (d : Decoder) (f : Format) (t : Track) (list : Blocks) (loop_block : Option ℕ) (history from : State) (i : ℕ)
    → IsStoredList d f t list loop_block → BeginsAnew d list loop_block
    → play d f t.memory t.start t.again history i ≡ round_output d list from t.blocks loop_block i
stored-play d f t list None history from i s anew =
    once-holds d f t list history from i s.laws.forgets (stored-track d f t list None s) (stored-keeps d f t list None s.laws s.range s.stored)
    (repeats-stored d f t list None s) anew.first
stored-play d f t list (Some l) history from i s anew =
    round-holds d f t l list history from i s.laws.forgets (stored-track d f t list (Some l) s) (stored-keeps d f t list (Some l) s.laws s.range s.stored)
    (repeats-stored d f t list (Some l) s) (register-stored d f t list l s) s.stored.loop_within anew.first anew.looped

-- no place of the loop is behind the list's end
place-within : (d : Decoder) (blocks l i : ℕ) → 0 < d.samples → l < blocks → round_place (points_of d blocks l) i < blocks * d.samples
place-within d blocks l i some within =
    let ordered = points-ordered d blocks l some within in
    let low = round_place-le (points_of d blocks l) i ordered in
    let more = some-samples d blocks some (omega arith) in
    omega (arith, low, more)

listed : (d : Decoder) (f : Format) (t : Track) (list : Blocks) (loop_block : Option ℕ) (from : State) (outputs : List ℤ) (i : ℕ)
    → IsStoredList d f t list loop_block → AreOutputs d list from t.blocks outputs
    → round_output d list from t.blocks loop_block i ≡ round_of outputs (loop_points d t.blocks loop_block) i
listed d f t list None from outputs i s are =
    elim (cases_lt i (t.blocks * d.samples)) [
      | inl first ↦ ap (λ (b : Bool). if b then output_at d list from i else pos 0) (lt-ltb i (t.blocks * d.samples) first) ∙ sym (are.each i first)
      | inr later ↦ ap (λ (b : Bool). if b then output_at d list from i else pos 0) (le-ltb i (t.blocks * d.samples) later)
          ∙ sym (get_or_past outputs i (pos 0) (omega (arith, are.count, later)))
    ]
listed d f t list (Some l) from outputs i s are =
    sym (are.each (round_place (points_of d t.blocks l) i) (place-within d t.blocks l i s.laws.forgets.some_samples s.stored.loop_within))

-- the same of outputs that are given as a list
pub stored-listed : (d : Decoder) (f : Format) (t : Track) (list : Blocks) (loop_block : Option ℕ) (history from : State) (outputs : List ℤ) (i : ℕ)
    → IsStoredList d f t list loop_block → BeginsAnew d list loop_block → AreOutputs d list from t.blocks outputs
    → play d f t.memory t.start t.again history i ≡ round_of outputs (loop_points d t.blocks loop_block) i
stored-listed d f t list loop_block history from outputs i s anew are =
    stored-play d f t list loop_block history from i s anew ∙ listed d f t list loop_block from outputs i s are
