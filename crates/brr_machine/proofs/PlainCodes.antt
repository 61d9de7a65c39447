-- Where nothing is clamped and nothing wraps, costs are distances of multiples, and one of two codes is the nearest.
use Rattle.std.proofs.Common.{◌≡◌, ℕ, suc, ◌-◌, ◌*◌, ◌^◌, ◌<◌, ◌≤◌, arith, refl, ap, sym, ◌∙◌, inl, inr, subst}
use Rattle.std.specs.Prelude.{ℤ, pos, negsuc, ◌+ℤ◌, ◌-ℤ◌, ◌*ℤ◌, nat_lt}
use Rattle.std.specs.Int.{int_min}
use Rattle.std.proofs.lemmas.Int.{ints}
use Rattle.std.proofs.lemmas.Nat.{pow_pos}
use Rattle.std.proofs.lemmas.Bool.{cond-true, lt-ltb}
use Rattle.std.proofs.Math.Nat.{pow-succ'}
use Rattle.adpcm_nums.specs.Nums.{floor_of, clamp16_of, wrap15_of, square_of}
use Rattle.adpcm_nums.specs.Nibbles.{nibble}
use Rattle.adpcm_nums.proofs.NearestLaws.{floor-low, floor-high}
use Rattle.adpcm_nums.specs.Nearest.{within_of}
use Rattle.adpcm_nums.specs.Picks.{first_of_two}
use Rattle.adpcm_nums.proofs.Multiples.{IsLower, lower-is, multiple_cost, below-costs, above-costs, in-order}
use Rattle.adpcm_nums.proofs.NibblePicks.{next-value, Rises, first-of-neighbours}
use Rattle.brr_machine.specs.Brr.{sample_of}
use Rattle.brr_machine.specs.Predicted.{predicted_output, predicted_cost, nearest_predicted, IsPlain}
use Rattle.adpcm_nums.proofs.NibbleValues.{nibble-low, nibble-high}
use Rattle.brr_machine.specs.Laws.Outcomes.{no-change}

even : (v : ℤ) (q : ℕ) → v *ℤ pos (2 * q) ≡ pos 2 *ℤ (v *ℤ pos q)
even (pos a) q = omega (arith, ints)
even (negsuc a) q = omega (arith, ints)

halved : (x y : ℤ) → x ≡ pos 2 *ℤ y → pos 2 *ℤ floor_of x 2 ≡ x
halved x y e = let low = floor-low x 2 (omega arith) in let high = floor-high x 2 (omega arith) in omega (arith, ints)

-- twice the sample is a multiple of the power of the shift
pub twice-sample : (shift c : ℕ) → 1 ≤ shift → shift < 13 → pos 2 *ℤ sample_of shift c ≡ nibble c *ℤ pos (2 ^ shift)
unfolding sample_of
twice-sample shift c some few =
    let plain : sample_of shift c ≡ floor_of (nibble c *ℤ pos (2 ^ shift)) 2 = cond-true (nat_lt shift 13) _ _ (lt-ltb shift 13 (omega arith)) in
    let before : shift ≡ suc (shift - 1) = omega arith in
    let power : 2 ^ shift ≡ 2 * 2 ^ (shift - 1) = ap (λ z. 2 ^ z) before ∙ pow-succ' 2 (shift - 1) in
    let product : nibble c *ℤ pos (2 ^ shift) ≡ pos 2 *ℤ (nibble c *ℤ pos (2 ^ (shift - 1))) = ap (λ z. nibble c *ℤ pos z) power ∙ even (nibble c) (2 ^ (shift - 1)) in
    ap (λ z. pos 2 *ℤ z) plain ∙ halved (nibble c *ℤ pos (2 ^ shift)) (nibble c *ℤ pos (2 ^ (shift - 1))) product

-- so a code costs what its multiple is away from what is left of the target
pub plain-cost : (shift c : ℕ) (prediction target : ℤ) → IsPlain shift prediction → c < 16
    → predicted_cost shift prediction target c ≡ multiple_cost (2 ^ shift) (target -ℤ pos 2 *ℤ prediction) (nibble c)
unfolding predicted_output predicted_cost
plain-cost shift c prediction target plain within =
    let few : shift < 13 = omega (arith, plain.few) in
    let twice = twice-sample shift c plain.some few in
    let low = in-order (negsuc 7) (nibble c) (2 ^ shift) (nibble-low c within) in
    let high = in-order (nibble c) (pos 7) (2 ^ shift) (nibble-high c within) in
    let plain_low = plain.low in
    let plain_high = plain.high in
    let raw = sample_of shift c +ℤ prediction in
    let same = no-change raw (omega (arith, ints)) (omega (arith, ints)) in
    let apart : pos 2 *ℤ wrap15_of (clamp16_of raw) -ℤ target ≡ nibble c *ℤ pos (2 ^ shift) -ℤ (target -ℤ pos 2 *ℤ prediction) =
    ap (λ z. pos 2 *ℤ z -ℤ target) same ∙ omega (arith, ints) in
    ap square_of apart

-- costs rise away from the codes on either side of what is left of the target
rises : (shift : ℕ) (prediction target : ℤ) (a b : ℕ) → IsPlain shift prediction → a < 16 → b < 16
    → nibble a ≡ within_of (negsuc 7) (pos 7) (floor_of (target -ℤ pos 2 *ℤ prediction) (2 ^ shift)) → nibble b ≡ int_min (nibble a +ℤ pos 1) (pos 7)
    → Rises (predicted_cost shift prediction target) (nibble a) a b
rises shift prediction target a b plain within_a within_b value_a value_b =
    let p = 2 ^ shift in
    let wanted = target -ℤ pos 2 *ℤ prediction in
    let some : 0 < p = pow_pos shift in
    let bounds : IsLower p wanted (nibble a) = subst (IsLower p wanted) (sym value_a) (lower-is p wanted some) in
    let costs : (c : ℕ) → c < 16 → predicted_cost shift prediction target c ≡ multiple_cost p wanted (nibble c) = λ c within. plain-cost shift c prediction target plain within in
    record {
      below = λ c within less. elim bounds.below [
        | inl least ↦ absurd (let low = nibble-low c within in omega (arith, ints))
        | inr reaches ↦ omega (arith, costs a within_a, costs c within, below-costs p wanted (nibble c) (nibble a) some less reaches)
      ];
      above = λ c within more. elim bounds.above [
        | inl greatest ↦ absurd (let high = nibble-high c within in omega (arith, ints))
        | inr reaches ↦ (
            let high = nibble-high c within in
            let next : nibble b ≡ nibble a +ℤ pos 1 = value_b ∙ next-value (nibble a) (nibble c) (omega (arith, ints, more)) high in
            let here : predicted_cost shift prediction target b ≡ multiple_cost p wanted (nibble a +ℤ pos 1) = costs b within_b ∙ ap (multiple_cost p wanted) next in
            omega (arith, here, costs c within, above-costs p wanted (nibble c) (nibble a +ℤ pos 1) some more reaches))
      ];
    }

-- what the two codes of the code make of it
pub nearest-plain : (shift : ℕ) (prediction target : ℤ) (a b i : ℕ) → IsPlain shift prediction → a < 16 → b < 16
    → nibble a ≡ within_of (negsuc 7) (pos 7) (floor_of (target -ℤ pos 2 *ℤ prediction) (2 ^ shift)) → nibble b ≡ int_min (nibble a +ℤ pos 1) (pos 7)
    → i ≡ first_of_two (predicted_cost shift prediction target) a b → i ≡ nearest_predicted shift prediction target
unfolding nearest_predicted
nearest-plain shift prediction target a b i plain within_a within_b value_a value_b picked =
    first-of-neighbours (predicted_cost shift prediction target) (nibble a) a b i within_a within_b refl value_b (rises shift prediction target a b plain within_a within_b value_a value_b) picked
