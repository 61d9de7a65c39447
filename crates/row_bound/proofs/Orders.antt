-- Products with a factor that is not positive, and with the factor on the right.
use Rattle.std.proofs.Common.{◌≡◌, arith}
use Rattle.std.specs.Prelude.{ℤ, pos, ◌-ℤ◌, ◌*ℤ◌, ◌≤ℤ◌}
use Rattle.std.proofs.Math.IntN.{*ℤ_comm}
use Rattle.std.proofs.lemmas.Int.{ints}
use Rattle.adpcm_nums.proofs.ProductLaws.{mul-sub, in-order}

-- a factor on the right is spread over a difference
pub sub-mul : (a b c : ℤ) → (a -ℤ b) *ℤ c ≡ a *ℤ c -ℤ b *ℤ c
sub-mul a b c = omega (arith, ints, mul-sub c a b, *ℤ_comm (a -ℤ b) c, *ℤ_comm a c, *ℤ_comm b c)

-- a factor from 0 down turns the order
pub against : (m a b : ℤ) → m ≤ℤ pos 0 → a ≤ℤ b → (m *ℤ b) ≤ℤ (m *ℤ a)
against m a b h k =
    let o = in-order (pos 0 -ℤ m) a b (omega (arith, ints, h)) k in
    let za = sub-mul (pos 0) m a in
    let zb = sub-mul (pos 0) m b in
    omega (arith, ints, o, za, zb)
