-- A stored first pass is read again, and is what the player of its blocks gives.
use Rattle.std.proofs.Common.{◌≡◌, ℕ, ◌*◌, ◌^◌, ◌≤◌, refl, sym, ap, ◌∙◌, arith, inl, inr, ℤ, pos, ◌*ℤ◌, List, length, get_or, map, Option, Some, None, Ok}
use Rattle.std.specs.List.{range_with_len}
use Rattle.std.proofs.lemmas.Bool.{cases_lt}
use Rattle.std.proofs.lemmas.Int.{ints}
use Rattle.std.proofs.lemmas.List.{get_or_past}
use Rattle.std.proofs.lemmas.List.FromFn.{get_or-map-range_with_len, length-map-range_with_len}
use Rattle.adpcm_nums.specs.declared.loop_at.LoopAt.{LoopAt}
use Rattle.adpcm_nums.specs.Round.{round_place, round_of}
use Rattle.adpcm_nums.specs.Sample.{AreSamples}
use Rattle.machine_core.specs.declared.state.State.{State}
use Rattle.machine_core.specs.Decoder.{Decoder, start}
use Rattle.machine_core.specs.Blocks.{Blocks, IsLegal, output_at}
use Rattle.machine_core.specs.Rules.{Rules}
use Rattle.player_model.specs.Format.{Format}
use Rattle.loop_fit.specs.declared.fitted.Fitted.{Fitted}
use Rattle.loop_fit.specs.Fit.{points_of, points_in}
use Rattle.player_model.specs.Player.{play}
use Rattle.player_model.specs.Looped.{IsStoredAt, AreOutputs, loop_points}
use Rattle.smpl_loops.specs.Loops.{first_loop_of}
use Rattle.smpl_loops.proofs.ReadAgain.{read_again}
use Rattle.wave_form.specs.declared.wave.Wave.{Wave}
use Rattle.wave_form.specs.Reading.{read_of}
use Rattle.wave_form.proofs.ReadAgain.{sound_again, loop_again}
use Rattle.bank_kinds.specs.Codec.{IsFlagged, stored_codec, fixed_in}
use Rattle.bank_kinds.specs.Passes.{outputs_of}
use Rattle.bank_kinds.specs.Fits.{IsFit, AreWithin, first_of}
use Rattle.bank_compile.specs.Bank.{sound_file}
use Rattle.bank_compile.proofs.StoredLaws.{heard-round, played-is, frames-are}

-- a file is read as this sound, with this loop
pub record IsSoundFile (file : List ℕ) (rate : ℕ) (samples : List ℤ) (points : Option LoopAt) : Type 0 where
  pub sound : Wave
  pub is_read : read_of file None ≡ Ok sound
  pub rate_is : sound.rate ≡ rate
  pub samples_are : sound.samples ≡ samples
  pub loop_is : first_loop_of sound.sampler (length samples) ≡ Ok points

-- the file of a sound is read as that sound, with its loop
pub sound_file-read : (rate : ℕ) (samples : List ℤ) (points : Option LoopAt) → 1 ≤ rate → rate ≤ 1000000 → length samples ≤ 2 ^ 24 → AreSamples samples
    → AreWithin (length samples) points → IsSoundFile (sound_file rate samples points) rate samples points
sound_file-read rate samples None some low few range within =
    record { sound = _; is_read = sound_again rate samples some low few range; rate_is = refl; samples_are = refl; loop_is = refl }
sound_file-read rate samples (Some at) some low few range within =
    record {
      sound = _;
      is_read = loop_again rate samples at some low few range;
      rate_is = refl;
      samples_are = refl;
      loop_is = read_again rate (length samples) at within.0 within.1 (omega arith);
    }

-- where no loop stays at its frames, a fit's loop is that of its blocks
pub points-are : (d : Decoder) (blocks : ℕ) (loop_block : Option ℕ) (frames : Option LoopAt) → frames ≡ None → loop_points d blocks loop_block ≡ points_in d.samples blocks loop_block frames
points-are d blocks None frames none = sym none
points-are d blocks (Some l) frames none = refl

-- the outputs of a list
abbrev pub plain_outputs : Decoder → Blocks → ℕ → List ℤ
plain_outputs d list count = map (output_at d list start) (range_with_len 0 count)

-- nothing times a scale is nothing
scaled-none : (s : ℕ) → (pos s *ℤ pos 0) ≡ pos 0
scaled-none s = omega (arith, ints)

-- an output times the scale is a sample of the first pass
scaled : (d : Decoder) (list : Blocks) (count k : ℕ) → pos d.scale *ℤ get_or (plain_outputs d list count) k (pos 0) ≡ get_or (outputs_of d list count) k (pos 0)
scaled d list count k = elim (cases_lt k count) [
  | inl within ↦ (
      let plain = get_or-map-range_with_len (output_at d list start) 0 count k k (pos 0) within (omega arith) in
      let times = get_or-map-range_with_len (λ i. pos d.scale *ℤ output_at d list start i) 0 count k k (pos 0) within (omega arith) in
      ap (λ y. pos d.scale *ℤ y) plain ∙ sym times)
  | inr past ↦ (
      let plain = get_or_past (plain_outputs d list count) k (pos 0) (omega (arith, length-map-range_with_len (output_at d list start) 0 count)) in
      let times = get_or_past (outputs_of d list count) k (pos 0) (omega (arith, length-map-range_with_len (λ i. pos d.scale *ℤ output_at d list start i) 0 count)) in
      ap (λ y. pos d.scale *ℤ y) plain ∙ (scaled-none d.scale ∙ sym times))
]

-- and so it is where both go round
pub scaled-round : (d : Decoder) (list : Blocks) (count : ℕ) (points : Option LoopAt) (i : ℕ) → pos d.scale *ℤ round_of (plain_outputs d list count) points i ≡ round_of (outputs_of d list count) points i
scaled-round d list count None i = scaled d list count i
scaled-round d list count (Some at) i = scaled d list count (round_place at i)

are-outputs : (d : Decoder) (list : Blocks) (blocks : ℕ) → AreOutputs d list start blocks (plain_outputs d list (blocks * d.samples))
are-outputs d list blocks = record {
  count = length-map-range_with_len (output_at d list start) 0 (blocks * d.samples);
  each = λ k within. get_or-map-range_with_len (output_at d list start) 0 (blocks * d.samples) k k (pos 0) within (omega arith);
}

-- the player of a stored list gives the first pass and then its loop for ever, or silence
pub plays-first : (r : Rules) (f : Format) (memory : List ℕ) (begin again : ℕ) (list : Blocks) (fitted : Fitted) (history : State) (i : ℕ) → IsFlagged r f → IsFit (stored_codec r f) fitted
    → IsLegal r.decoder fitted.blocks (fixed_in (stored_codec r f) fitted) list → IsStoredAt r.decoder f memory begin again list fitted.blocks fitted.loop_block
    → pos r.decoder.scale *ℤ play r.decoder f memory begin again history i ≡ round_of (first_of (stored_codec r f) fitted list) (points_of r.decoder.samples fitted) i
plays-first r f memory begin again list fitted history i laws fit legal stored =
    let d = r.decoder in
    let count = fitted.blocks * d.samples in
    let points = points_of d.samples fitted in
    let heard = heard-round r f memory begin again list fitted history i laws fit legal stored (plain_outputs d list count) (are-outputs d list fitted.blocks) in
    ap (λ y. pos d.scale *ℤ y) heard
    ∙ (scaled-round d list count (loop_points d fitted.blocks fitted.loop_block) i
    ∙ (ap (λ points. round_of (outputs_of d list count) points i) (points-are d fitted.blocks fitted.loop_block fitted.loop_frames (frames-are r f fitted laws fit))
    ∙ ap (λ n. round_of (outputs_of d list n) points i) (sym (played-is r f fitted laws))))
