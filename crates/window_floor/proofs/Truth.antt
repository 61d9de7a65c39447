-- A window's floor is below the cost of every outcome.
use Rattle.std.proofs.Common.{◌≡◌, ℕ, ◌+◌, ◌<◌, ◌≤◌, arith, ap, subst}
use Rattle.std.specs.Prelude.{ℤ, pos, ◌+ℤ◌, ◌-ℤ◌, ◌*ℤ◌, unsigned_abs, List, get_or}
use Rattle.std.proofs.lemmas.Int.{ints}
use Rattle.adpcm_nums.specs.Nums.{square_of}
use Rattle.window_floor.specs.Row.{Row, IsNormed}
use Rattle.window_floor.specs.Miss.{rho_of, miss_of, least_miss}
use Rattle.window_floor.specs.Floor.{output_cost, shared_cost, window_floor}
use Rattle.window_floor.specs.Outcome.{IsWrap, IsOutcome, clamped_first, clamped_second, filtered}
use Rattle.window_floor.proofs.MissLaws.{miss-below}
use Rattle.window_floor.proofs.Inequality.{shared-below}
use Rattle.window_floor.proofs.Equations.{error-equation}

-- numbers that differ in their sign alone
same-size : (x y : ℤ) → x ≡ pos 0 -ℤ y → unsigned_abs y ≡ unsigned_abs x
same-size x y h = grind (arith, ints)

-- without clamping, the errors share at least the least miss
pub shared-true : (w : Row) (samples : List ℤ) (r o x at_r at_o y : ℤ) (i e : ℕ) (k raw : ℤ) → IsNormed w → i < 16 → e ≤ w.errs → IsWrap w.wraps k
    → (w.d *ℤ raw) ≡ (w.d *ℤ get_or samples i (pos 0) +ℤ w.ca *ℤ at_o +ℤ w.cb *ℤ at_r +ℤ w.bias -ℤ pos e) → y ≡ raw -ℤ pos 32768 *ℤ k
    → shared_cost w (least_miss w (rho_of w r o x) samples) ≤ output_cost w y x + output_cost w at_o o + output_cost w at_r r
unfolding miss_of
shared-true w samples r o x at_r at_o y i e k raw n h l t p q =
    let below = miss-below w (rho_of w r o x) samples i e k h l t in
    let equation = error-equation w.d w.ca w.cb w.bias (pos e) w.scale (get_or samples i (pos 0)) o r x at_o at_r raw (pos 32768 *ℤ k) y p q in
    let size = same-size _ (rho_of w r o x -ℤ w.scale *ℤ (w.d *ℤ (get_or samples i (pos 0) -ℤ pos 32768 *ℤ k) +ℤ w.bias -ℤ pos e)) equation in
    shared-below (least_miss w (rho_of w r o x) samples) w.norm w.d w.ca w.cb (w.scale *ℤ y -ℤ x) (w.scale *ℤ at_o -ℤ o) (w.scale *ℤ at_r -ℤ r) n.above n.sum (subst (λ (z : ℕ). least_miss w (rho_of w r o x) samples ≤ z) size below)

-- no outputs of three places cost less than the floor
pub three-cost : (w : Row) (samples : List ℤ) (first second r o x at_r at_o y : ℤ) → IsNormed w → IsOutcome w samples first second at_r at_o y
    → window_floor w samples first second r o x ≤ output_cost w y x + output_cost w at_o o + output_cost w at_r r
unfolding window_floor
three-cost w samples first second r o x at_r at_o y n (clamped_first e) = let c : output_cost w y x ≡ output_cost w first x = ap (λ z. output_cost w z x) e in omega (arith, c)
three-cost w samples first second r o x at_r at_o y n (clamped_second e) = let c : output_cost w y x ≡ output_cost w second x = ap (λ z. output_cost w z x) e in omega (arith, c)
three-cost w samples first second r o x at_r at_o y n (filtered i e k raw h l t p q) = let s = shared-true w samples r o x at_r at_o y i e k raw n h l t p q in omega (arith, s)

-- a product with 0
zero-product : (b x : ℤ) → b ≡ pos 0 → b *ℤ x ≡ pos 0
zero-product b x h = rw h (omega (arith, ints))

-- without the factor of the output before last, that output may be any
any-before : (w : Row) (samples : List ℤ) (first second at_r r o y : ℤ) → w.cb ≡ pos 0 → IsOutcome w samples first second at_r o y → IsOutcome w samples first second r o y
any-before w samples first second at_r r o y z (clamped_first e) = clamped_first e
any-before w samples first second at_r r o y z (clamped_second e) = clamped_second e
any-before w samples first second at_r r o y z (filtered i e k raw h l t p q) =
    let was = zero-product w.cb at_r z in let now = zero-product w.cb r z in filtered i e k raw h l t (omega (arith, ints, p, was, now)) q

-- a place whose output and target are 0 costs nothing
no-cost : (w : Row) → output_cost w (pos 0) (pos 0) ≡ 0
no-cost w = let z : w.scale *ℤ pos 0 -ℤ pos 0 ≡ pos 0 = omega (arith, ints) in ap square_of z

-- so no outputs of two places do
pub pair-cost : (w : Row) (samples : List ℤ) (first second o x at_r at_o y : ℤ) → IsNormed w → w.cb ≡ pos 0 → IsOutcome w samples first second at_r at_o y
    → window_floor w samples first second (pos 0) o x ≤ output_cost w y x + output_cost w at_o o
pair-cost w samples first second o x at_r at_o y n z g =
    let three = three-cost w samples first second (pos 0) o x (pos 0) at_o y n (any-before w samples first second at_r (pos 0) at_o y z g) in
    omega (arith, three, no-cost w)
