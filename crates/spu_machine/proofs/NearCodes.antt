-- Where neither neighbour of what is left of the target is clamped, costs rise away from the two.
use Rattle.std.proofs.Common.{◌≡◌, ℕ, ◌-◌, ◌^◌, ◌<◌, arith, refl, ap, sym, subst, ◌∙◌, inl, inr}
use Rattle.std.specs.Prelude.{ℤ, pos, negsuc, ◌+ℤ◌, ◌-ℤ◌, ◌*ℤ◌, ◌≤ℤ◌, ◌<ℤ◌}
use Rattle.std.specs.Int.{int_min}
use Rattle.std.proofs.lemmas.Int.{ints}
use Rattle.std.proofs.lemmas.Nat.{pow_pos}
use Rattle.adpcm_nums.specs.Nums.{floor_of, clamp16_of, square_of}
use Rattle.adpcm_nums.specs.Sample.{IsSample}
use Rattle.adpcm_nums.specs.Nibbles.{nibble}
use Rattle.adpcm_nums.specs.Nearest.{within_of}
use Rattle.adpcm_nums.specs.Picks.{first_of_two}
use Rattle.adpcm_nums.proofs.NibbleValues.{nibble-low, nibble-high}
use Rattle.adpcm_nums.proofs.Multiples.{IsLower, lower-is, steps-apart, farther, farther-below, farther-above, swap-product}
use Rattle.adpcm_nums.proofs.NibblePicks.{next-value, Rises, first-of-neighbours}
use Rattle.spu_machine.specs.Spu.{sample_of, acting_shift}
use Rattle.spu_machine.specs.Predicted.{predicted_output, predicted_cost, nearest_predicted}
use Rattle.adpcm_nums.proofs.ClampLaws.{clamp-in}
use Rattle.spu_machine.proofs.LevelLaws.{multiple}

-- what is below a number that is not clamped stays below it
clamp-less : (x y : ℤ) → x <ℤ y → negsuc 32767 <ℤ y → clamp16_of x <ℤ y
clamp-less x y h k = grind (arith, ints)

clamp-more : (x y : ℤ) → y <ℤ x → y <ℤ pos 32767 → y <ℤ clamp16_of x
clamp-more x y h k = grind (arith, ints)

-- the cost of a code whose output is known
cost-at : (shift : ℕ) (prediction target y : ℤ) (c : ℕ) → clamp16_of (sample_of shift c +ℤ prediction) ≡ y → predicted_cost shift prediction target c ≡ square_of (y -ℤ target)
unfolding predicted_cost predicted_output
cost-at shift prediction target y c e = let once : pos 1 *ℤ clamp16_of (sample_of shift c +ℤ prediction) ≡ y = omega (arith, ints, e) in ap (λ z. square_of (z -ℤ target)) once

-- what comes before the clamp, as a multiple of the step
raw-at : (shift : ℕ) (prediction : ℤ) (c : ℕ) → sample_of shift c +ℤ prediction ≡ nibble c *ℤ pos (2 ^ (12 - acting_shift shift)) +ℤ prediction
raw-at shift prediction c = let turned = multiple shift c ∙ swap-product (nibble c) (2 ^ (12 - acting_shift shift)) in ap (λ z. z +ℤ prediction) turned

rises : (shift : ℕ) (prediction target : ℤ) (a b : ℕ) → IsSample target → b < 16
    → nibble a ≡ within_of (negsuc 7) (pos 7) (floor_of (target -ℤ prediction) (2 ^ (12 - acting_shift shift))) → nibble b ≡ int_min (nibble a +ℤ pos 1) (pos 7)
    → negsuc 32767 <ℤ (sample_of shift a +ℤ prediction) → (sample_of shift b +ℤ prediction) <ℤ pos 32767
    → Rises (predicted_cost shift prediction target) (nibble a) a b
rises shift prediction target a b sample within_b value_a value_b inside_a inside_b =
    let p = 2 ^ (12 - acting_shift shift) in
    let some : 0 < p = pow_pos (12 - acting_shift shift) in
    let bounds : IsLower p (target -ℤ prediction) (nibble a) = subst (IsLower p (target -ℤ prediction)) (sym value_a) (lower-is p (target -ℤ prediction) some) in
    let raw_a = raw-at shift prediction a in let raw_b = raw-at shift prediction b in
    let low = sample.low in let high = sample.high in
    record {
      below = λ c within less. elim bounds.below [
        | inl least ↦ absurd (let lowest = nibble-low c within in omega (arith, ints))
        | inr reaches ↦ (
            let x = sample_of shift a +ℤ prediction in
            let y = clamp16_of (sample_of shift c +ℤ prediction) in
            let apart = steps-apart (nibble c) (nibble a) p less in
            let raw_c = raw-at shift prediction c in
            let lower : (sample_of shift c +ℤ prediction) <ℤ x = omega (arith, ints, apart, raw_a, raw_c, some) in
            let under : x ≤ℤ target = omega (arith, ints, reaches, raw_a) in
            let here = cost-at shift prediction target x a (clamp-in x (omega (arith, ints, inside_a)) (omega (arith, ints, under, high))) in
            let there = cost-at shift prediction target y c refl in
            let more = farther (x -ℤ target) (y -ℤ target) (farther-below x y target (clamp-less _ x lower inside_a) under) in
            omega (arith, here, there, more))
      ];
      above = λ c within beyond. elim bounds.above [
        | inl greatest ↦ absurd (let highest = nibble-high c within in omega (arith, ints))
        | inr reaches ↦ (
            let x = sample_of shift b +ℤ prediction in
            let y = clamp16_of (sample_of shift c +ℤ prediction) in
            let next : nibble b ≡ nibble a +ℤ pos 1 = value_b ∙ next-value (nibble a) (nibble c) (omega (arith, ints, beyond)) (nibble-high c within) in
            let turned : nibble b *ℤ pos p ≡ (nibble a +ℤ pos 1) *ℤ pos p = ap (λ z. z *ℤ pos p) next in
            let apart = steps-apart (nibble a +ℤ pos 1) (nibble c) p beyond in
            let raw_c = raw-at shift prediction c in
            let higher : x <ℤ (sample_of shift c +ℤ prediction) = omega (arith, ints, apart, raw_b, raw_c, turned, some) in
            let over : target ≤ℤ x = omega (arith, ints, reaches, raw_b, turned) in
            let here = cost-at shift prediction target x b (clamp-in x (omega (arith, ints, over, low)) (omega (arith, ints, inside_b))) in
            let there = cost-at shift prediction target y c refl in
            let more = farther (x -ℤ target) (y -ℤ target) (farther-above x y target (clamp-more _ x higher inside_b) over) in
            omega (arith, here, there, more))
      ];
    }

-- so the cheaper one of the two is the first code of least cost
pub nearest-inside : (shift : ℕ) (prediction target : ℤ) (a b i : ℕ) → IsSample target → a < 16 → b < 16
    → nibble a ≡ within_of (negsuc 7) (pos 7) (floor_of (target -ℤ prediction) (2 ^ (12 - acting_shift shift))) → nibble b ≡ int_min (nibble a +ℤ pos 1) (pos 7)
    → negsuc 32767 <ℤ (sample_of shift a +ℤ prediction) → (sample_of shift b +ℤ prediction) <ℤ pos 32767
    → i ≡ first_of_two (predicted_cost shift prediction target) a b → i ≡ nearest_predicted shift prediction target
unfolding nearest_predicted
nearest-inside shift prediction target a b i sample within_a within_b value_a value_b inside_a inside_b picked =
    first-of-neighbours (predicted_cost shift prediction target) (nibble a) a b i within_a within_b refl value_b
    (rises shift prediction target a b sample within_b value_a value_b inside_a inside_b) picked
