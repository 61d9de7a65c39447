-- What the codes stand for under a shift are the levels of a uniform quantizer.
use Rattle.std.proofs.Common.{◌≡◌, ℕ, ◌+◌, ◌-◌, ◌*◌, ◌^◌, ◌<◌, ◌≤◌, arith, ap, sym, ◌∙◌, inl, inr}
use Rattle.std.specs.Prelude.{ℤ, pos, negsuc, ◌+ℤ◌, ◌*ℤ◌}
use Rattle.std.proofs.lemmas.Int.{ints}
use Rattle.std.proofs.lemmas.Nat.{pow-add, pow_pos}
use Rattle.std.proofs.lemmas.Bool.Decides.{nat_tests}
use Rattle.std.proofs.Math.Nat.{pow-le-pow_right}
use Rattle.adpcm_nums.specs.Nums.{floor_of}
use Rattle.adpcm_nums.specs.Nibbles.{nibble}
use Rattle.adpcm_nums.proofs.NearestLaws.{floor-low, floor-high}
use Rattle.adpcm_nums.proofs.OrderLaws.{le-or-gt}
use Rattle.adpcm_nums.proofs.Multiples.{swap-product}
use Rattle.window_floor.specs.Quantizer.{AreLevels}
use Rattle.adpcm_nums.proofs.ProductLaws.{in-order}
use Rattle.window_floor.proofs.Quotients.{next-multiple, one-product}
use Rattle.window_floor.proofs.NibbleLevels.{levels-by}
use Rattle.spu_machine.specs.Spu.{acting_shift, sample_of}
use Rattle.spu_machine.specs.Floors.{samples_under}
use Rattle.linear_machine.specs.Laws.Codes.{sample-at}

-- a multiple's quotient
exact : (v : ℤ) (p q : ℕ) → 0 < p → floor_of (v *ℤ pos (q * p)) p ≡ pos q *ℤ v
exact v p q some =
    let x = v *ℤ pos (q * p) in
    let low = floor-low x p some in
    let high = floor-high x p some in
    let order : pos p *ℤ pos q ≡ pos (q * p) = omega (arith, ints) in
    let whole : x ≡ pos p *ℤ (pos q *ℤ v) = sym (swap-product v (q * p)) ∙ ap (λ z. z *ℤ v) (sym order) ∙ one-product (pos p) (pos q) v in
    elim (le-or-gt (floor_of x p) (pos q *ℤ v)) [
      | inr above ↦ absurd (
          let apart = in-order (pos p) (pos q *ℤ v +ℤ pos 1) (floor_of x p) (omega (arith, ints)) (omega (arith, ints, above)) in
          let next = next-multiple (pos p) (pos q *ℤ v) in omega (arith, ints, low, whole, apart, next, some))
      | inl up_to ↦ elim (le-or-gt (pos q *ℤ v) (floor_of x p)) [
        | inl from ↦ omega (arith, ints, up_to, from)
        | inr below ↦ absurd (
            let apart = in-order (pos p) (floor_of x p +ℤ pos 1) (pos q *ℤ v) (omega (arith, ints)) (omega (arith, ints, below)) in
            let next = next-multiple (pos p) (floor_of x p) in omega (arith, ints, high, whole, apart, next, some))
      ]
    ]

-- no step is above 4096
pub step-small : (shift : ℕ) → 2 ^ (12 - shift) ≤ 4096
step-small shift = let some : 0 < 2 = omega arith in let few : 12 - shift ≤ 12 = omega arith in pow-le-pow_right some few

-- 4096 is a power times another
pub two-powers : (shift : ℕ) → shift ≤ 12 → 4096 ≡ 2 ^ (12 - shift) * 2 ^ shift
two-powers shift h = let sum : 12 ≡ 12 - shift + shift = omega arith in let split = ap (λ n. 2 ^ n) sum ∙ pow-add 2 (12 - shift) shift in omega (arith, split)

acting-few : (shift : ℕ) → acting_shift shift ≤ 12
acting-few shift = grind (arith, nat_tests)

-- a code stands for a multiple of its value
pub multiple : (shift c : ℕ) → sample_of shift c ≡ pos (2 ^ (12 - acting_shift shift)) *ℤ nibble c
unfolding sample_of
multiple shift c =
    let acting = acting_shift shift in
    let powers = two-powers acting (acting-few shift) in
    ap (λ n. floor_of (nibble c *ℤ pos n) (2 ^ acting)) powers ∙ exact (nibble c) (2 ^ acting) (2 ^ (12 - acting)) (pow_pos acting)

pub levels_multiplied : (shift : ℕ) (step : ℤ) → step ≡ pos (2 ^ (12 - acting_shift shift)) → AreLevels step (negsuc 7) (pos 7) (samples_under shift)
levels_multiplied shift step is =
    levels-by step (samples_under shift) (λ i h. sample-at (sample_of shift) i (pos 0) h ∙ multiple shift i ∙ ap (λ z. z *ℤ nibble i) (sym is))
