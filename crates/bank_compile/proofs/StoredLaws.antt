-- What a codec's stored list of blocks is to its player: a track, read back as the list and heard as it.
use Rattle.std.proofs.Common.{◌≡◌, ℕ, ◌*◌, ◌<◌, subst, ap, ◌∙◌, ℤ, Bool, true, IsTrue, List, get_or, Option, Some, None, ◌==◌, ◌||◌, if◌then◌else◌, refl}
use Rattle.std.specs.Prelude.{IfSome}
use Rattle.std.proofs.Math.Bool.{or-true}
use Rattle.std.proofs.lemmas.Bool.{eq-eqb, false≢true}
use Rattle.adpcm_nums.specs.Round.{round_of}
use Rattle.machine_core.specs.declared.state.State.{State}
use Rattle.machine_core.specs.declared.state.Kind.{Kind}
use Rattle.machine_core.specs.declared.state.Kind.TheVariants.{Brr, Spu, Ima}
use Rattle.machine_core.specs.declared.state.HeadRule.{HeadRule}
use Rattle.machine_core.specs.declared.state.HeadRule.TheVariants.{AnyHead, FilterZero}
use Rattle.machine_core.specs.Decoder.{Decoder, start}
use Rattle.machine_core.specs.Blocks.{Blocks, IsInRange, IsLegal, is_first}
use Rattle.machine_core.specs.Rules.{Rules}
use Rattle.block_flags.specs.Flags.{tells_end}
use Rattle.loop_fit.specs.declared.fitted.Fitted.{Fitted}
use Rattle.player_model.specs.Format.{Format}
use Rattle.player_model.specs.Player.{play}
use Rattle.player_model.specs.Looped.{IsStoredAt, BeginsAnew, AreOutputs, loop_points}
use Rattle.player_model.specs.Track.{Track}
use Rattle.player_model.proofs.StoredPlay.{stored-listed}
use Rattle.player_model.proofs.StoredTracks.{IsStoredList}
use Rattle.bank_kinds.specs.Codec.{IsFlagged, stored_codec, fixed_in}
use Rattle.bank_kinds.specs.Fits.{IsFit, IsLooped, played_in, played_of}

-- the track of a list that is stored from an address on
abbrev pub track_at : List ℕ → ℕ → ℕ → ℕ → Track
track_at memory begin again blocks = record { memory = memory; start = begin; again = again; blocks = blocks }

-- it is stored as its format says
pub stored-list : (r : Rules) (f : Format) (memory : List ℕ) (begin again : ℕ) (list : Blocks) (fitted : Fitted) → IsFlagged r f → IsInRange r.decoder fitted.blocks list
    → IsStoredAt r.decoder f memory begin again list fitted.blocks fitted.loop_block
    → IsStoredList r.decoder f (track_at memory begin again fitted.blocks) list fitted.loop_block
stored-list r f memory begin again list fitted laws range stored = record { laws = laws.kept.stored; tells = laws.ends; range = range; stored = stored }

-- the first block of a legal list forgets
first-forgets : (d : Decoder) (list : Blocks) (blocks : ℕ) (loop_block : Option ℕ) → IsLegal d blocks (is_first loop_block) list → 0 < blocks → IsTrue (d.allows (get_or list.heads 0 0) FilterZero)
first-forgets d list blocks None legal some = legal.obeys.allowed 0 some
first-forgets d list blocks (Some l) legal some = legal.obeys.allowed 0 some

-- and so does its loop block
loop-forgets : (d : Decoder) (list : Blocks) (blocks : ℕ) (loop_block : Option ℕ) → IsLegal d blocks (is_first loop_block) list → IfSome loop_block (λ l. l < blocks)
    → IfSome loop_block (λ l. IsTrue (d.allows (get_or list.heads l 0) FilterZero))
loop-forgets d list blocks None legal within = tt
loop-forgets d list blocks (Some l) legal within =
    let same : (l == l) ≡ true = eq-eqb l l refl in
    let first : (l == 0 || l == l) ≡ true = ap (λ z. l == 0 || z) same ∙ or-true (l == 0) in
    let rule : (if l == 0 || l == l then FilterZero else AnyHead) ≡ FilterZero = ap (λ (t : Bool). if t then FilterZero else AnyHead) first in
    subst (λ (r : HeadRule). IsTrue (d.allows (get_or list.heads l 0) r)) rule (legal.obeys.allowed l within)

-- the first block of a legal list and the first of its loop forget what was played before
pub anew : (r : Rules) (f : Format) (fitted : Fitted) (list : Blocks) → IsFlagged r f → IsFit (stored_codec r f) fitted → IsLegal r.decoder fitted.blocks (fixed_in (stored_codec r f) fitted) list
    → BeginsAnew r.decoder list fitted.loop_block
anew r f fitted list laws fit legal =
    let whole = subst (λ (fixed : ℕ → Bool). IsLegal r.decoder fitted.blocks fixed list) (laws.anew fitted.loop_block) legal in
    record { first = first-forgets _ list _ _ whole fit.whole.some; looped = loop-forgets _ list _ _ whole fit.whole.loop_block }

-- its player gives its outputs, and then its loop for ever, or silence
pub heard-round : (r : Rules) (f : Format) (memory : List ℕ) (begin again : ℕ) (list : Blocks) (fitted : Fitted) (history : State) (i : ℕ) → IsFlagged r f → IsFit (stored_codec r f) fitted
    → IsLegal r.decoder fitted.blocks (fixed_in (stored_codec r f) fitted) list → IsStoredAt r.decoder f memory begin again list fitted.blocks fitted.loop_block
    → (outputs : List ℤ) → AreOutputs r.decoder list start fitted.blocks outputs
    → play r.decoder f memory begin again history i ≡ round_of outputs (loop_points r.decoder fitted.blocks fitted.loop_block) i
heard-round r f memory begin again list fitted history i laws fit legal stored outputs are =
    stored-listed r.decoder f (track_at memory begin again fitted.blocks) list fitted.loop_block history start outputs i
    (stored-list r f memory begin again list fitted laws legal.in_range stored) (anew r f fitted list laws fit legal) are

-- flags are of a kind whose every output is played
all-played : (kind : Kind) (samples : ℕ) (fitted : Fitted) → tells_end kind ≡ true → played_in kind samples fitted ≡ fitted.blocks * samples
all-played Brr samples fitted told = refl
all-played Spu samples fitted told = refl
all-played Ima samples fitted told = absurd (false≢true told)

-- and whose loops lie on blocks
no-frames : (kind : Kind) (fitted : Fitted) → tells_end kind ≡ true → IsLooped kind fitted → fitted.loop_frames ≡ None
no-frames Brr fitted told looped = looped
no-frames Spu fitted told looped = looped
no-frames Ima fitted told looped = absurd (false≢true told)

tells : (r : Rules) (f : Format) → IsFlagged r f → tells_end r.kind ≡ true
tells r f laws = subst (λ (k : Kind). tells_end k ≡ true) laws.kept.kind_is laws.ends

pub played-is : (r : Rules) (f : Format) (fitted : Fitted) → IsFlagged r f → played_of (stored_codec r f) fitted ≡ fitted.blocks * r.decoder.samples
played-is r f fitted laws = all-played r.kind r.decoder.samples fitted (tells r f laws)

pub frames-are : (r : Rules) (f : Format) (fitted : Fitted) → IsFlagged r f → IsFit (stored_codec r f) fitted → fitted.loop_frames ≡ None
frames-are r f fitted laws fit = no-frames r.kind fitted (tells r f laws) fit.looped
