-- Floored quotients: between which multiples they lie, how large they are, and the aim that they give.
use Rattle.std.proofs.Common.{◌≡◌, ℕ, ◌*◌, ◌<◌, ◌≤◌, arith, ap, ◌∙◌, ◌⊎◌, inl, inr, w32, w64, to_z, of_z}
use Rattle.std.specs.Prelude.{ℤ, pos, negsuc, suc, ◌+ℤ◌, ◌-ℤ◌, ◌*ℤ◌, ◌≤ℤ◌, ◌<ℤ◌, unsigned_abs}
use Rattle.std.specs.Int.{int_min, int_max}
use Rattle.std.proofs.lemmas.Int.{ints}
use Rattle.std.proofs.Math.IntN.{*ℤ-one, *ℤ_comm}
use Rattle.std.proofs.Math.Nat.{mul-le-mul}
use Rattle.adpcm_nums.specs.Nums.{floor_of}
use Rattle.adpcm_nums.specs.Sample.{IsSample}
use Rattle.adpcm_nums.proofs.NearestLaws.{floor-low, floor-high}
use Rattle.window_floor.specs.Row.{Row}
use Rattle.window_floor.specs.Quantizer.{IsAim}
use Rattle.adpcm_nums.proofs.ProductLaws.{mul-add, mul-swap, in-order}

-- a divisor above 0
some : (d : ℤ) → pos 1 ≤ℤ d → 0 < unsigned_abs d
some d h = omega (arith, ints)

-- as a natural number
natural : (d : ℤ) → pos 1 ≤ℤ d → pos (unsigned_abs d) ≡ d
natural d h = omega (arith, ints)

-- the quotient times the divisor is not above the number
pub quotient-low : (x d q : ℤ) → pos 1 ≤ℤ d → q ≡ floor_of x (unsigned_abs d) → (d *ℤ q) ≤ℤ x
quotient-low x d q h e =
    let low = floor-low x (unsigned_abs d) (some d h) in
    let times = ap (λ z. z *ℤ floor_of x (unsigned_abs d)) (natural d h) in
    let same = ap (λ z. d *ℤ z) e in omega (arith, ints, low, times, same)

-- one multiple more
pub next-multiple : (d q : ℤ) → d *ℤ (q +ℤ pos 1) ≡ d *ℤ q +ℤ d
next-multiple d q = let m = mul-add d q (pos 1) in let one = *ℤ-one d in omega (arith, ints, m, one)

-- and the next multiple is above it
pub quotient-high : (x d q : ℤ) → pos 1 ≤ℤ d → q ≡ floor_of x (unsigned_abs d) → x <ℤ (d *ℤ (q +ℤ pos 1))
quotient-high x d q h e =
    let high = floor-high x (unsigned_abs d) (some d h) in
    let times = ap (λ z. z *ℤ floor_of x (unsigned_abs d)) (natural d h) in
    let same = ap (λ z. d *ℤ z) e in
    let next = next-multiple d q in omega (arith, ints, high, times, same, next)

-- a scale times a number above 0
pub scaled-some : (s d t : ℤ) → (s ≡ pos 1) ⊎ (s ≡ pos 2) → pos 1 ≤ℤ d → t ≡ s *ℤ d → pos 1 ≤ℤ t
scaled-some s d t (inl e) h q = let times = ap (λ z. z *ℤ d) e in omega (arith, ints, q, times, h)
scaled-some s d t (inr e) h q = let times = ap (λ z. z *ℤ d) e in omega (arith, ints, q, times, h)

-- and times the bias
pub scaled-low : (s b t : ℤ) → (s ≡ pos 1) ⊎ (s ≡ pos 2) → pos 0 ≤ℤ b → t ≡ s *ℤ b → pos 0 ≤ℤ t
scaled-low s b t (inl e) h q = let times = ap (λ z. z *ℤ b) e in omega (arith, ints, q, times, h)
scaled-low s b t (inr e) h q = let times = ap (λ z. z *ℤ b) e in omega (arith, ints, q, times, h)

-- which is small
pub scaled-high : (s b t : ℤ) → (s ≡ pos 1) ⊎ (s ≡ pos 2) → b ≤ℤ pos 64 → t ≡ s *ℤ b → t ≤ℤ pos 128
scaled-high s b t (inl e) h q = let times = ap (λ z. z *ℤ b) e in omega (arith, ints, q, times, h)
scaled-high s b t (inr e) h q = let times = ap (λ z. z *ℤ b) e in omega (arith, ints, q, times, h)

-- a product of three numbers
pub one-product : (s d a : ℤ) → (s *ℤ d) *ℤ a ≡ s *ℤ (d *ℤ a)
one-product s d a = *ℤ_comm (s *ℤ d) a ∙ (mul-swap a s d ∙ ap (λ z. s *ℤ z) (*ℤ_comm a d))

-- a scale over a sum
scaled-sum : (s d b a : ℤ) → s *ℤ (d *ℤ a +ℤ b) ≡ (s *ℤ d) *ℤ a +ℤ s *ℤ b
scaled-sum s d b a = let sum = mul-add s (d *ℤ a) b in let times = one-product s d a in omega (arith, ints, sum, times)

-- the quotient of what is left of rho without the bias, all scaled
pub aim-is : (w : Row) (rho bias divisor z q : ℤ) → pos 1 ≤ℤ divisor → bias ≡ w.scale *ℤ w.bias → divisor ≡ w.scale *ℤ w.d
    → z ≡ rho -ℤ bias → q ≡ floor_of z (unsigned_abs divisor) → IsAim w rho q
aim-is w rho bias divisor z q h b t e k =
    let low = quotient-low z divisor q h k in
    let high = quotient-high z divisor q h k in
    let here = ap (λ v. v *ℤ q) t in
    let next = ap (λ v. v *ℤ (q +ℤ pos 1)) t in
    let under = scaled-sum w.scale w.d w.bias q in
    let above = scaled-sum w.scale w.d w.bias (q +ℤ pos 1) in
    record { below = omega (arith, ints, low, here, under, b, e); above = omega (arith, ints, high, next, above, b, e) }

-- a number that is brought into low..high is low, or no greater than it was
low-or-less : (low high q r : ℤ) → r ≡ int_max (int_min q high) low → (r ≡ low) ⊎ (r ≤ℤ q)
low-or-less low high q r e = grind (arith, ints)

-- it is high, or no less than it was
high-or-more : (low high q r : ℤ) → low ≤ℤ high → r ≡ int_max (int_min q high) low → (r ≡ high) ⊎ (q ≤ℤ r)
high-or-more low high q r h e = grind (arith, ints)

-- it is at most high
pub at-most : (low high q r : ℤ) → low ≤ℤ high → r ≡ int_max (int_min q high) low → r ≤ℤ high
at-most low high q r h e = grind (arith, ints)

-- the quotient by the step, brought into the numbers of the levels
pub under-below : (step low high x q r : ℤ) → pos 1 ≤ℤ step → q ≡ floor_of x (unsigned_abs step) → r ≡ int_max (int_min q high) low → (r ≡ low) ⊎ ((step *ℤ r) ≤ℤ x)
under-below step low high x q r p h e =
    elim (low-or-less low high q r e) [
      | inl same ↦ inl same
      | inr less ↦ (let down = quotient-low x step q p h in let order = in-order step r q (omega (arith, ints, p)) less in inr (omega (arith, ints, down, order)))
    ]

-- the next level is above x
pub under-above : (step low high x q r : ℤ) → pos 1 ≤ℤ step → low ≤ℤ high → q ≡ floor_of x (unsigned_abs step) → r ≡ int_max (int_min q high) low → (r ≡ high) ⊎ (x <ℤ (step *ℤ (r +ℤ pos 1)))
under-above step low high x q r p l h e =
    elim (high-or-more low high q r l e) [
      | inl same ↦ inl same
      | inr more ↦ (
          let over = quotient-high x step q p h in
          let order = in-order step (q +ℤ pos 1) (r +ℤ pos 1) (omega (arith, ints, p)) (omega (arith, ints, more)) in inr (omega (arith, ints, over, order)))
    ]

-- the number after n, where there is one
pub next-is : (n high next : ℤ) → n ≤ℤ high → next ≡ int_min (n +ℤ pos 1) high → (next ≡ n +ℤ pos 1) ⊎ (n ≡ high)
next-is n high next h e = grind (arith, ints)

-- which is not below the lowest
pub next-low : (low n high next : ℤ) → low ≤ℤ n → low ≤ℤ high → next ≡ int_min (n +ℤ pos 1) high → low ≤ℤ next
next-low low n high next l h e = grind (arith, ints)

-- a level is no lower than the lowest sample
level-low : (p : ℕ) (n : ℤ) → p ≤ 4096 → negsuc 7 ≤ℤ n → negsuc 32767 ≤ℤ (pos p *ℤ n)
level-low p (pos a) h l = omega (arith, ints)
level-low p (negsuc a) h l = let e : suc a ≤ 8 = omega (arith, ints) in let m : p * suc a ≤ 4096 * 8 = mul-le-mul h e in omega (arith, ints, m)

-- and no higher than the highest
level-high : (p : ℕ) (n : ℤ) → p ≤ 4096 → n ≤ℤ pos 7 → (pos p *ℤ n) ≤ℤ pos 32767
level-high p (pos a) h l = let e : a ≤ 7 = omega (arith, ints) in let m : p * a ≤ 4096 * 7 = mul-le-mul h e in omega (arith, ints, m)
level-high p (negsuc a) h l = omega (arith, ints)

-- levels are samples
pub level-range : (step n : ℤ) → pos 1 ≤ℤ step → step ≤ℤ pos 4096 → negsuc 7 ≤ℤ n → n ≤ℤ pos 7 → IsSample (step *ℤ n)
level-range step n p h l u =
    let same = ap (λ z. z *ℤ n) (natural step p) in
    let low = level-low (unsigned_abs step) n (omega (arith, ints)) l in
    let high = level-high (unsigned_abs step) n (omega (arith, ints)) u in
    record { low = omega (arith, ints, same, low); high = omega (arith, ints, same, high) }

-- the level that the code computes
pub level-is : (step n s m : ℤ) → s ≡ step → m ≡ n → IsSample (step *ℤ n) → to_z w32 (of_z w32 (to_z w64 (of_z w64 (s *ℤ m)))) ≡ step *ℤ n
level-is step n s m p q is = let low = is.low in let high = is.high in rw (p, q) (omega (arith, ints, low, high))
