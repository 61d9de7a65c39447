-- Of two samples on one side of the aim, the nearer one misses by less.
use Rattle.std.proofs.Common.{◌≡◌, ℕ, ◌≤◌, arith, refl, ap, sym, inl, inr}
use Rattle.std.specs.Prelude.{ℤ, pos, ◌+ℤ◌, ◌-ℤ◌, ◌*ℤ◌, ◌≤ℤ◌, ◌<ℤ◌, unsigned_abs}
use Rattle.std.proofs.lemmas.Int.{ints}
use Rattle.window_floor.specs.Row.{Row}
use Rattle.window_floor.specs.Miss.{miss_of, rounded_miss}
use Rattle.window_floor.specs.Quantizer.{IsAim}
use Rattle.adpcm_nums.proofs.LeastValueLaws.{least_of-below, least_of-reached}
use Rattle.adpcm_nums.proofs.OrderLaws.{le-or-gt}
use Rattle.adpcm_nums.proofs.ProductLaws.{in-order}
use Rattle.window_floor.proofs.Orders.{nearer-below, nearer-above}

-- a miss as the distance of a multiple of the scale
miss-of : (w : Row) (rho a v : ℤ) (e : ℕ) → v ≡ w.d *ℤ a +ℤ w.bias -ℤ pos e → miss_of w rho a e ≡ unsigned_abs (rho -ℤ w.scale *ℤ v)
unfolding miss_of
miss-of w rho a v e h = ap (λ z. unsigned_abs (rho -ℤ w.scale *ℤ z)) (sym h)

-- of two samples that do not reach rho the greater one misses by less
pub rounded-under : (w : Row) (rho a b : ℤ) → pos 0 ≤ℤ w.scale → pos 0 ≤ℤ w.d → a ≤ℤ b → (w.scale *ℤ (w.d *ℤ b +ℤ w.bias)) ≤ℤ rho → rounded_miss w rho b ≤ rounded_miss w rho a
unfolding rounded_miss
rounded-under w rho a b s d h k =
    let there = least_of-reached (miss_of w rho a) w.errs in
    let low = least_of-below (miss_of w rho b) w.errs 0 (omega arith) in
    let step = in-order w.d a b d h in
    let v = w.d *ℤ a +ℤ w.bias -ℤ pos there.0 in
    let u = w.d *ℤ b +ℤ w.bias in
    let times = in-order w.scale v u s (omega (arith, ints, step)) in
    let near = nearer-below (w.scale *ℤ v) (w.scale *ℤ u) rho times k in
    let at = miss-of w rho a v there.0 refl in
    let here = miss-of w rho b u 0 (omega (arith, ints)) in
    omega (arith, low, near, there.2, at, here)

-- a number below another is that one less their distance
fall : (u v : ℤ) → v ≤ℤ u → v ≡ u -ℤ pos (unsigned_abs (u -ℤ v))
fall u v h = omega (arith, ints)

-- which is no more than what rounding takes away
fall-small : (u v x : ℤ) (e n : ℕ) → u ≤ℤ x → v ≡ x -ℤ pos e → e ≤ n → v ≤ℤ u → unsigned_abs (u -ℤ v) ≤ n
fall-small u v x e n h k l m = omega (arith, ints)

-- of two samples that reach rho the smaller one misses by less
pub rounded-over : (w : Row) (rho a b : ℤ) → pos 0 ≤ℤ w.scale → pos 0 ≤ℤ w.d → b ≤ℤ a → rho ≤ℤ (w.scale *ℤ (w.d *ℤ b +ℤ w.bias)) → rounded_miss w rho b ≤ rounded_miss w rho a
unfolding rounded_miss
rounded-over w rho a b s d h k =
    let there = least_of-reached (miss_of w rho a) w.errs in
    let step = in-order w.d b a d h in
    let v = w.d *ℤ a +ℤ w.bias -ℤ pos there.0 in
    let u = w.d *ℤ b +ℤ w.bias in
    let at = miss-of w rho a v there.0 refl in
    elim (le-or-gt u v) [
      | inl above ↦ (
          let times = in-order w.scale u v s above in
          let near = nearer-above (w.scale *ℤ v) (w.scale *ℤ u) rho times k in
          let here = miss-of w rho b u 0 (omega (arith, ints)) in
          let low = least_of-below (miss_of w rho b) w.errs 0 (omega arith) in
          omega (arith, low, near, there.2, at, here))
      | inr below ↦ (
          let e = unsigned_abs (u -ℤ v) in
          let small = fall-small u v (w.d *ℤ a +ℤ w.bias) there.0 w.errs (omega (arith, ints, step)) refl there.1 (omega (arith, ints, below)) in
          let here = miss-of w rho b v e (fall u v (omega (arith, ints, below))) in
          let low = least_of-below (miss_of w rho b) w.errs e small in
          omega (arith, low, there.2, at, here))
    ]

-- the same by the aim
pub under-aim : (w : Row) (rho aim a b : ℤ) → pos 0 ≤ℤ w.scale → pos 0 ≤ℤ w.d → IsAim w rho aim → a ≤ℤ b → b ≤ℤ aim → rounded_miss w rho b ≤ rounded_miss w rho a
under-aim w rho aim a b s d is h k =
    let step = in-order w.d b aim d k in
    let times = in-order w.scale (w.d *ℤ b +ℤ w.bias) (w.d *ℤ aim +ℤ w.bias) s (omega (arith, ints, step)) in
    let below = is.below in
    rounded-under w rho a b s d h (omega (arith, ints, times, below))

-- and above it
pub over-aim : (w : Row) (rho aim a b : ℤ) → pos 0 ≤ℤ w.scale → pos 0 ≤ℤ w.d → IsAim w rho aim → b ≤ℤ a → aim <ℤ b → rounded_miss w rho b ≤ rounded_miss w rho a
over-aim w rho aim a b s d is h k =
    let step = in-order w.d (aim +ℤ pos 1) b d (omega (arith, ints, k)) in
    let times = in-order w.scale (w.d *ℤ (aim +ℤ pos 1) +ℤ w.bias) (w.d *ℤ b +ℤ w.bias) s (omega (arith, ints, step)) in
    let above = is.above in
    rounded-over w rho a b s d h (omega (arith, ints, times, above))
