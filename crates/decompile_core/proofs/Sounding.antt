-- What was taken apart sounds as its player.
use Rattle.std.proofs.Common.{◌≡◌, ℕ, ◌+◌, ◌-◌, ◌*◌, ◌/◌, ◌%◌, ◌<◌, ◌≤◌, true, false, inl, inr, get_or, refl, sym, ap, ◌∙◌, arith}
use Rattle.std.specs.Prelude.{pos, ◌*ℤ◌, Option, Some, None}
use Rattle.std.proofs.lemmas.Bool.{cases_Bool, cases_lt}
use Rattle.std.proofs.lemmas.Nat.{mod_below}
use Rattle.std.proofs.Math.Nat.{add-mod_right}
use Rattle.std.proofs.Math.IntN.{*ℤ-zero}
use Rattle.std.proofs.Math.ListN.{get_or-eq_default}
use Rattle.adpcm_nums.specs.Round.{round_of, round_place}
use Rattle.adpcm_nums.proofs.RoundLaws.{round_place-within, round_place-over}
use Rattle.machine_core.specs.Decoder.{Decoder, start}
use Rattle.player_model.specs.Format.{Format}
use Rattle.player_model.specs.Looped.{points_of}
use Rattle.player_model.specs.Sound.{heard}
use Rattle.player_model.specs.Track.{Track, repeats_at, end_register}
use Rattle.player_model.proofs.Moving.{address-of-block}
use Rattle.player_model.proofs.Passes.{points-ordered}
use Rattle.decompile_core.specs.declared.recovered.Recovered.{Recovered}
use Rattle.decompile_core.specs.declared.recovered.Settles.TheVariants.{Unsettled}
use Rattle.decompile_core.specs.Heard.{SoundsAs}
use Rattle.decompile_core.specs.Playings.{end_of, kept_samples, length_of, samples_of, settled, settles_at}
use Rattle.decompile_core.specs.Recovered.{playing_of, recovered_of, stored_recovered, with_loop}
use Rattle.decompile_core.proofs.PlayingSteps.{sample_at, samples_long}
use Rattle.decompile_core.proofs.Settling.{Shifts, given_for_ever, settled_passes}
use Rattle.decompile_core.proofs.Ways.{GoesOn, IsWay, goes_silent}

-- the samples end with playing m, which is their loop
kept-sounds : (d : Decoder) (f : Format) (t : Track) (l m i : ℕ) → Shifts d → 2 ≤ d.samples → IsWay f t → GoesOn f t l → settles_at (heard d f t) (points_of d t.blocks l) m ≡ true
    → round_of (samples_of d.scale (heard d f t) (end_of (points_of d t.blocks l) m)) (Some (playing_of (points_of d t.blocks l) m)) i ≡ pos d.scale *ℤ heard d f t i
kept-sounds d f t l m i shifts two way on again =
    let points = points_of d t.blocks l in
    let len = length_of points in
    let playing = playing_of points m in
    let some : 0 < d.samples = omega (arith, two) in
    let ordered = points-ordered d t.blocks l some on.within in
    elim (cases_lt playing.end i) [
      | inl over ↦ (let k = i - end_of points m in
          let place = round_place-over playing i over in
          let long : playing.end - playing.start + 1 ≡ len = omega (arith, ordered) in
          let gone : i - playing.start ≡ k + len = omega (arith, ordered, over) in
          let rest : (i - playing.start) % (playing.end - playing.start + 1) ≡ k % len = ap (λ n. n % (playing.end - playing.start + 1)) gone ∙ ap (λ n. (k + len) % n) long ∙ add-mod_right k len in
          let small : k % len < len = mod_below k len (omega arith) in
          let here : round_place playing i ≡ points.start + m * len + k % len = place ∙ ap (λ n. playing.start + n) rest in
          let within : points.start + m * len + k % len < end_of points m = omega (arith, ordered, small) in
          let whole : end_of points m + k ≡ i = omega (arith, over) in
          ap (λ n. get_or (samples_of d.scale (heard d f t) (end_of points m)) n (pos 0)) here ∙ sample_at d.scale (heard d f t) (end_of points m) _ within
          ∙ ap (λ x. pos d.scale *ℤ x) (sym (given_for_ever d f t l m k shifts two way on again) ∙ ap (heard d f t) whole))
      | inr within ↦ ap (λ n. get_or (samples_of d.scale (heard d f t) (end_of points m)) n (pos 0)) (round_place-within playing i within) ∙ sample_at d.scale (heard d f t) (end_of points m) i (omega (arith, within))
    ]

-- so with a loop
loop-sounds : (d : Decoder) (f : Format) (rate trailing : ℕ) (t : Track) (l : ℕ) (o : Option ℕ) → Shifts d → 2 ≤ d.samples → IsWay f t → GoesOn f t l → settled (heard d f t) (points_of d t.blocks l) ≡ o
    → ((with_loop rate (samples_of d.scale (heard d f t) (kept_samples (points_of d t.blocks l) o)) (points_of d t.blocks l) trailing o).settles ≡ Unsettled → ⊥)
    → SoundsAs (with_loop rate (samples_of d.scale (heard d f t) (kept_samples (points_of d t.blocks l) o)) (points_of d t.blocks l) trailing o).samples
    (with_loop rate (samples_of d.scale (heard d f t) (kept_samples (points_of d t.blocks l) o)) (points_of d t.blocks l) trailing o).loop_at d.scale (heard d f t)
loop-sounds d f rate trailing t l None shifts two way on found settles i = absurd (settles refl)
loop-sounds d f rate trailing t l (Some m) shifts two way on found settles i =
    kept-sounds d f t l m i shifts two way on (settled_passes (heard d f t) (points_of d t.blocks l) m found)

zero-scaled : (scale : ℕ) → pos 0 ≡ pos scale *ℤ pos 0
zero-scaled scale = sym (*ℤ-zero (pos scale))

-- and without one
once-sounds : (d : Decoder) (f : Format) (t : Track) (i : ℕ) → 0 < d.samples → IsWay f t → repeats_at f t.memory t.start (t.blocks - 1) ≡ false
    → round_of (samples_of d.scale (heard d f t) (t.blocks * d.samples)) None i ≡ pos d.scale *ℤ heard d f t i
once-sounds d f t i some way once =
    let all = t.blocks * d.samples in
    elim (cases_lt i all) [
      | inl before ↦ sample_at d.scale (heard d f t) all i before
      | inr after ↦ (let muted = goes_silent d f t start some way once i after in
          let silent : heard d f t i ≡ pos 0 = rw muted refl in
          get_or-eq_default (samples_of d.scale (heard d f t) all) (pos 0) (omega (arith, samples_long d.scale (heard d f t) all, after))
          ∙ zero-scaled d.scale ∙ ap (λ x. pos d.scale *ℤ x) (sym silent))
    ]

-- a track that repeats goes on at the loop block
pub goes_on : (f : Format) (t : Track) → IsWay f t → repeats_at f t.memory t.start (t.blocks - 1) ≡ true → GoesOn f t ((end_register f t - t.start) / f.size)
goes_on f t way repeats =
    let there = address-of-block f t.start t.blocks (end_register f t) (way.returns repeats) in
    record { repeats = repeats; there = there.1; within = there.0 }

-- what a track is taken apart into sounds as its player for ever, where it settles or has no loop
pub stored_sounds : (d : Decoder) (f : Format) (rate trailing : ℕ) (t : Track) → Shifts d → 2 ≤ d.samples → IsWay f t
    → ((stored_recovered d f rate trailing t).settles ≡ Unsettled → ⊥) → SoundsAs (stored_recovered d f rate trailing t).samples (stored_recovered d f rate trailing t).loop_at d.scale (heard d f t)
unfolding recovered_of
stored_sounds d f rate trailing t shifts two way = elim (cases_Bool (repeats_at f t.memory t.start (t.blocks - 1))) [
  | inl repeats ↦ rw repeats (loop-sounds d f rate trailing t _ _ shifts two way (goes_on f t way repeats) refl)
  | inr once ↦ rw once (λ settles i. once-sounds d f t i (omega (arith, two)) way once)
]
