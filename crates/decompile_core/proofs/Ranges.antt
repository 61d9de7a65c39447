-- What a player gives has 16 bits when it is brought to the scale of samples, whatever the bytes.
use Rattle.std.proofs.Common.{◌≡◌, ℕ, zero, suc, List, get_or, refl, ap, sym, ◌∙◌, subst, arith, inl, inr, IsTrue}
use Rattle.std.specs.Prelude.{ℤ, pos, ◌*ℤ◌}
use Rattle.std.proofs.lemmas.Bool.{cases_Bool}
use Rattle.std.proofs.lemmas.Int.{ints}
use Rattle.std.proofs.lemmas.List.Elements.{All-map}
use Rattle.std.specs.List.{range_with_len}
use Rattle.adpcm_nums.specs.Sample.{IsSample, AreSamples}
use Rattle.machine_core.specs.declared.state.State.{State}
use Rattle.machine_core.specs.Decoder.{Decoder, start}
use Rattle.brr_machine.specs.Brr.{brr}
use Rattle.brr_machine.specs.Laws.States.{last_bounds as brr_bounds}
use Rattle.brr_machine.specs.Laws.Ranges as brr_ranges
use Rattle.spu_machine.specs.Spu.{spu}
use Rattle.spu_machine.specs.Laws.States.{last_bounds as spu_bounds}
use Rattle.spu_machine.specs.Laws.Ranges as spu_ranges
use Rattle.player_model.specs.declared.position.Position.{Position}
use Rattle.player_model.specs.Format.{Format}
use Rattle.player_model.specs.BrrFormat.{brr_format}
use Rattle.player_model.specs.SpuFormat.{spu_format}
use Rattle.player_model.specs.Player.{sounded, next_position, position_after}
use Rattle.player_model.specs.Track.{Track}
use Rattle.player_model.specs.Sound.{heard, track_position}
use Rattle.decompile_core.specs.Playings.{samples_of}

-- every step leads from a state to a state
abbrev Stays : Decoder → Type 0
Stays d = (head place symbol : ℕ) (at : State) → IsTrue (d.is_state at) → IsTrue (d.is_state (d.step head place symbol at))

-- and every state has an output that is a sample
abbrev Fits : Decoder → Type 0
Fits d = (at : State) → IsTrue (d.is_state at) → IsSample (pos d.scale *ℤ at.a)

next-fits : (d : Decoder) (f : Format) (memory : List ℕ) (at : Position) → Stays d → IsTrue (d.is_state at.history) → IsTrue (d.is_state (next_position d f memory at).history)
next-fits d f memory at stays is = elim (cases_Bool at.muted) [
  | inl silent ↦ rw silent is
  | inr sounds ↦ rw sounds (stays (f.head_in memory at.address) at.place (f.symbol_in memory at.address at.place) at.history is)
]

history-fits : (d : Decoder) (f : Format) (memory : List ℕ) (from : Position) (n : ℕ) → Stays d → IsTrue (d.is_state from.history) → IsTrue (d.is_state (position_after d f memory from n).history)
history-fits d f memory from zero stays is = is
history-fits d f memory from (suc n) stays is = next-fits d f memory (position_after d f memory from n) stays (history-fits d f memory from n stays is)

silence : (scale : ℕ) → IsSample (pos scale *ℤ pos 0)
silence zero = record { low = omega (arith, ints); high = omega (arith, ints) }
silence (suc scale) = record { low = omega (arith, ints); high = omega (arith, ints) }

heard-fits : (d : Decoder) (f : Format) (t : Track) (i : ℕ) → Stays d → Fits d → IsTrue (d.is_state start) → IsSample (pos d.scale *ℤ heard d f t i)
heard-fits d f t i stays fits begins =
    let at = track_position d f t i in
    let is = history-fits d f t.memory (track_position d f t 0) i stays begins in
    elim (cases_Bool at.muted) [
      | inl silent ↦ rw silent (silence d.scale)
      | inr sounds ↦ rw sounds (fits (sounded d f t.memory at) (stays (f.head_in t.memory at.address) at.place (f.symbol_in t.memory at.address at.place) at.history is))
    ]

brr-sample : (at : State) → IsTrue (brr.is_state at) → IsSample (pos 2 *ℤ at.a)
brr-sample at is =
    let bounds = brr_bounds at is in
    let low = bounds.low in let high = bounds.high in record { low = omega (arith, ints); high = omega (arith, ints) }

spu-sample : (at : State) → IsTrue (spu.is_state at) → IsSample (pos 1 *ℤ at.a)
spu-sample at is =
    let bounds = spu_bounds at is in
    let low = bounds.low in let high = bounds.high in record { low = omega (arith, ints); high = omega (arith, ints) }

-- the outputs of BRR and of SPU-ADPCM
pub brr_heard_fits : (t : Track) (i : ℕ) → IsSample (pos 2 *ℤ heard brr brr_format t i)
brr_heard_fits t i = heard-fits brr brr_format t i (λ head p symbol at is. brr_ranges.step-fits head p symbol at is) brr-sample refl

pub spu_heard_fits : (t : Track) (i : ℕ) → IsSample (pos 1 *ℤ heard spu spu_format t i)
spu_heard_fits t i = heard-fits spu spu_format t i (λ head p symbol at is. spu_ranges.step-fits head p symbol at is) spu-sample refl

-- a list of samples
pub are_samples : (scale : ℕ) (output : ℕ → ℤ) (n : ℕ) → ((i : ℕ) → IsSample (pos scale *ℤ output i)) → AreSamples (samples_of scale output n)
are_samples scale output n each =
    All-map IsSample (λ i. pos scale *ℤ output i) (range_with_len 0 n) (λ k d within. each (get_or (range_with_len 0 n) k d))

-- so is what was played of a track
pub played_samples : (d : Decoder) (f : Format) (t u : Track) (n : ℕ) (samples : List ℤ) → u ≡ t → samples ≡ samples_of d.scale (heard d f u) n → ((i : ℕ) → IsSample (pos d.scale *ℤ heard d f t i))
    → AreSamples samples
played_samples d f t u n samples track played each =
    subst AreSamples (sym (played ∙ ap (λ v. samples_of d.scale (heard d f v) n) track)) (are_samples d.scale (heard d f t) n each)
