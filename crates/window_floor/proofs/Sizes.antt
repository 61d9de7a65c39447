-- How large a floor can be.
use Rattle.std.proofs.Common.{◌≡◌, ℕ, ◌*◌, ◌^◌, ◌≤◌, arith, ◌⊎◌}
use Rattle.std.specs.Prelude.{ℤ, pos, List}
use Rattle.std.proofs.Math.Nat.{mul-le-mul}
use Rattle.adpcm_nums.specs.Sample.{IsSample}
use Rattle.adpcm_nums.proofs.SpanLaws.{near-sample}
use Rattle.window_floor.specs.Row.{Row}
use Rattle.window_floor.specs.Miss.{rho_of, least_miss}
use Rattle.window_floor.specs.Floor.{output_cost, clamped_floor, window_floor}

-- a sample costs less than a square of 17 bits
pub cost-small : (w : Row) (y x : ℤ) → (w.scale ≡ pos 1) ⊎ (w.scale ≡ pos 2) → IsSample y → IsSample x → output_cost w y x ≤ 2 ^ 34
cost-small w y x s a b = let near = near-sample w.scale y x s a b in let cost : output_cost w y x ≤ 2 ^ 17 * 2 ^ 17 = mul-le-mul near near in omega (arith, cost)

-- a floor is no more than the cost of an output of clamping
pub clamped-small : (w : Row) (miss : ℕ) (first second x : ℤ) → (w.scale ≡ pos 1) ⊎ (w.scale ≡ pos 2) → IsSample first → IsSample x → clamped_floor w miss first second x ≤ 2 ^ 34
clamped-small w miss first second x s a b =
    let cost = cost-small w first x s a b in omega (arith, cost)

-- and so is the floor of a window
pub floor-small : (w : Row) (samples : List ℤ) (first second r o x : ℤ) → (w.scale ≡ pos 1) ⊎ (w.scale ≡ pos 2) → IsSample first → IsSample x → window_floor w samples first second r o x ≤ 2 ^ 34
unfolding window_floor
floor-small w samples first second r o x s a b = clamped-small w (least_miss w (rho_of w r o x) samples) first second x s a b
