-- What holds of each entry that is taken apart.
use Rattle.std.proofs.Common.{◌≡◌, ℕ, ◌+◌, ◌-◌, ◌*◌, ◌^◌, ◌<◌, ◌≤◌, Bool, true, false, nat_lt, refl, sym, ap, ◌∙◌, subst, arith, inl, inr}
use Rattle.std.specs.Prelude.{ℤ, ◌||◌, Option, Some, None}
use Rattle.std.proofs.Math.Nat.{mul-le-mul}
use Rattle.std.proofs.lemmas.Bool.{cases_Bool, false≢true, ltb-false}
use Rattle.adpcm_nums.specs.declared.loop_at.LoopAt.{LoopAt}
use Rattle.adpcm_nums.proofs.FirstLaws.{first_where-is}
use Rattle.machine_core.specs.Decoder.{Decoder}
use Rattle.player_model.specs.Format.{Format}
use Rattle.player_model.specs.Looped.{points_of}
use Rattle.player_model.specs.Sound.{heard}
use Rattle.player_model.specs.Track.{Track, repeats_at}
use Rattle.ima_machine.specs.Ima.{samples_in}
use Rattle.player_model.specs.ImaTrack.{ImaSound, blocks_of}
use Rattle.player_model.proofs.Passes.{points-ordered}
use Rattle.ima_wave.specs.declared.file.ImaFile.{ImaFile}
use Rattle.ima_wave.specs.Files.{IsImaFile}
use Rattle.decompile_core.specs.declared.recovered.Recovered.{Recovered}
use Rattle.player_model.specs.Limit.{is_much}
use Rattle.decompile_core.specs.Decompiled.{frames_of}
use Rattle.decompile_core.specs.Playings.{end_of, kept_samples, length_of, samples_of, settled, settles_at}
use Rattle.decompile_core.specs.Recovered.{IsEntry, recovered_of, stored_recovered, with_loop}
use Rattle.decompile_core.proofs.PlayingSteps.{samples_long}
use Rattle.decompile_core.proofs.Settling.{points_whole}
use Rattle.decompile_core.proofs.Sounding.{goes_on}
use Rattle.decompile_core.proofs.Ways.{IsWay}

settled-below : (output : ℕ → ℤ) (points : LoopAt) (m : ℕ) → settled output points ≡ Some m → m < 64
unfolding settled
settled-below output points m found = (first_where-is (settles_at output points) 64 m found).within

-- 64 playings have few samples
few-playings : (points : LoopAt) (m : ℕ) → points.end + 1 ≤ 262144 → m < 64 → end_of points m ≤ 2 ^ 24
few-playings points m few below =
    let count : m ≤ 63 = omega (arith, below) in
    let long : length_of points ≤ 262144 = omega (arith, few) in
    let gone : m * length_of points ≤ 63 * 262144 = mul-le-mul count long in
    omega (arith, gone, few)

loop-kept : (rate scale : ℕ) (output : ℕ → ℤ) (points : LoopAt) (trailing : ℕ) (o : Option ℕ) → 1 ≤ rate → rate ≤ 1000000 → points.start ≤ points.end → points.end + 1 ≤ 262144 → settled output points ≡ o
    → IsEntry (with_loop rate (samples_of scale output (kept_samples points o)) points trailing o)
loop-kept rate scale output points trailing None some low ordered few found =
    let long = samples_long scale output (end_of points 0) in
    record { some_rate = some; low_rate = low; few = omega (arith, long, few); forward = ordered; inside = omega (arith, long) }
loop-kept rate scale output points trailing (Some m) some low ordered few found =
    let long = samples_long scale output (end_of points m) in
    let most = few-playings points m few (settled-below output points m found) in
    record { some_rate = some; low_rate = low; few = omega (arith, long, most); forward = omega (arith, ordered); inside = omega (arith, long) }

once-kept : (rate scale : ℕ) (output : ℕ → ℤ) (count trailing : ℕ) → 1 ≤ rate → rate ≤ 1000000 → count ≤ 262144 → IsEntry (recovered_of rate scale output count None trailing)
unfolding recovered_of
once-kept rate scale output count trailing some low few =
    let long = samples_long scale output count in record { some_rate = some; low_rate = low; few = omega (arith, long, few); forward = tt; inside = tt }

-- a track of few samples
pub stored_kept : (d : Decoder) (f : Format) (rate trailing : ℕ) (t : Track) → 0 < d.samples → IsWay f t → t.blocks * d.samples ≤ 262144 → 1 ≤ rate → rate ≤ 1000000 → IsEntry (stored_recovered d f rate trailing t)
unfolding recovered_of
stored_kept d f rate trailing t positive way few some low = elim (cases_Bool (repeats_at f t.memory t.start (t.blocks - 1))) [
  | inl repeats ↦ (let on = goes_on f t way repeats in
      let whole = points_whole d t.blocks _ positive on.within in
      rw repeats (loop-kept rate d.scale (heard d f t) (points_of d t.blocks _) trailing _ some low (points-ordered d t.blocks _ positive on.within) (omega (arith, whole, few)) refl))
  | inr once ↦ rw once (once-kept rate d.scale (heard d f t) (t.blocks * d.samples) trailing some low few)
]

-- the same of an entry that is seen as another
pub kept_as : (entry other : Recovered) → entry ≡ other → IsEntry other → IsEntry entry
kept_as entry other same kept = subst IsEntry (sym same) kept

or-false : (a b : Bool) → (a || b) ≡ false → b ≡ false
or-false true b e = absurd (false≢true (sym e))
or-false false b e = e

-- what is not too much has few samples
pub few_samples : (blocks samples : ℕ) → is_much blocks samples ≡ false → blocks * samples ≤ 262144
few_samples blocks samples few = ltb-false 262144 (blocks * samples) (or-false (nat_lt 4096 blocks) (nat_lt 262144 (blocks * samples)) few)

-- so has a file whose blocks are not too many
pub frames_few : (file : ImaFile) (t : ImaSound) (blocks samples : ℕ) → IsImaFile file → t ≡ frames_of file → blocks ≡ blocks_of t → samples ≡ samples_in file.align → is_much blocks samples ≡ false → file.frames ≤ 262144
frames_few file t blocks samples kept track all each few =
    let whole : is_much (blocks_of (frames_of file)) (samples_in file.align) ≡ false =
    ap (λ u. is_much (blocks_of u) (samples_in file.align)) (sym track) ∙ ap (λ n. is_much n (samples_in file.align)) (sym all) ∙ ap (is_much blocks) (sym each) ∙ few in
    let most = few_samples (blocks_of (frames_of file)) (samples_in file.align) whole in
    omega (arith, most, kept.frames)
