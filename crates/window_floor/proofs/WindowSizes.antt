-- Floors of windows are far below what a sum of 64 bits holds.
use Rattle.std.proofs.Common.{ℕ, zero, suc, ◌+◌, ◌*◌, ◌^◌, ◌≤◌, arith, length, inl, inr, subst, sym}
use Rattle.std.specs.Prelude.{ℤ, pos, List, get_or}
use Rattle.std.proofs.lemmas.Bool.{cases_lt}
use Rattle.std.proofs.lemmas.List.{get_or_past}
use Rattle.adpcm_nums.specs.Sample.{IsSample, AreSamples}
use Rattle.adpcm_nums.proofs.LeastValueLaws.{least_of-below}
use Rattle.window_floor.specs.Row.{size_of}
use Rattle.window_floor.specs.Floor.{output_cost}
use Rattle.window_floor.specs.Windows.{Windows, target_at, single_floor, sample_floor, one_window, two_window, three_window, window_at, floor_from, IsSound}
use Rattle.window_floor.proofs.CutLaws.{cut-small}
use Rattle.window_floor.proofs.PlaceLaws.{no-sample}
use Rattle.window_floor.proofs.Sizes.{cost-small, floor-small}
use Rattle.window_floor.proofs.WindowLaws.{single-small}

-- what is read of a list of samples is a sample
read-sample : (xs : List ℤ) (p : ℕ) → AreSamples xs → IsSample (get_or xs p (pos 0))
read-sample xs p all =
    elim (cases_lt p (length xs)) [
      | inl within ↦ all p (pos 0) within
      | inr past ↦ subst IsSample (sym (get_or_past xs p (pos 0) past)) no-sample
    ]

-- a window of one place
one-small : (b : Windows) (x : ℤ) → IsSound b → IsSample x → one_window b x ≤ 2 ^ 34
unfolding one_window sample_floor
one-small b x sound is =
    let least = least_of-below (λ i. output_cost b.row (get_or b.samples i (pos 0)) x) 15 0 (omega arith) in
    let cost = cost-small b.row (get_or b.samples 0 (pos 0)) x sound.scale (read-sample b.samples 0 sound.samples_fit) is in
    let alone = single-small b.row x sound.scale in omega (arith, least, cost, alone)

-- of two places
two-small : (b : Windows) (o x : ℤ) → IsSound b → IsSample x → two_window b o x ≤ 2 ^ 34
unfolding two_window
two-small b o x sound is =
    let floor = floor-small b.row b.samples b.first b.second (pos 0) o x sound.scale sound.clamped is in
    let first = single-small b.row o sound.scale in let second = single-small b.row x sound.scale in omega (arith, floor, first, second)

-- of three places
three-small : (b : Windows) (r o x : ℤ) → IsSound b → IsSample x → three_window b r o x ≤ 2 ^ 34
unfolding three_window
three-small b r o x sound is =
    let floor = floor-small b.row b.samples b.first b.second r o x sound.scale sound.clamped is in
    let first = single-small b.row r sound.scale in let second = single-small b.row o sound.scale in let third = single-small b.row x sound.scale in
    omega (arith, floor, first, second, third)

-- of any size
window-small : (b : Windows) (size : ℕ) (targets : List ℤ) (p : ℕ) → IsSound b → AreSamples targets → window_at b size targets p ≤ 2 ^ 34
unfolding window_at
window-small b zero targets p sound all = three-small b (target_at targets p) (target_at targets (p + 1)) (target_at targets (p + 2)) sound (read-sample targets (p + 2) all)
window-small b (suc zero) targets p sound all = one-small b (target_at targets p) sound (read-sample targets p all)
window-small b (suc (suc zero)) targets p sound all = two-small b (target_at targets p) (target_at targets (p + 1)) sound (read-sample targets (p + 1) all)
window-small b (suc (suc (suc n))) targets p sound all =
    three-small b (target_at targets p) (target_at targets (p + 1)) (target_at targets (p + 2)) sound (read-sample targets (p + 2) all)

-- the floor from any place
pub floor-fits : (b : Windows) (targets : List ℤ) (p : ℕ) → IsSound b → AreSamples targets → floor_from b targets p ≤ b.places * 2 ^ 34
unfolding floor_from
floor-fits b targets p sound all =
    cut-small b.places (size_of b.row) (window_at b (size_of b.row) targets) (λ q. single_floor b.row (target_at targets q)) (2 ^ 34) p
    (λ q. let small = single-small b.row (target_at targets q) sound.scale in omega (arith, small))
    (λ q. window-small b (size_of b.row) targets q sound all)
