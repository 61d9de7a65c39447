-- Where costs rise away from two codes of neighbouring values, the first of the two of least cost is the first of all codes.
use Rattle.std.proofs.Common.{◌≡◌, ℕ, ◌<◌, arith, sym, ◌∙◌, ◌⊎◌, inl, inr}
use Rattle.std.specs.Prelude.{ℤ, pos, ◌+ℤ◌, ◌≤ℤ◌, ◌<ℤ◌}
use Rattle.std.specs.Int.{int_min}
use Rattle.std.proofs.lemmas.Int.{ints}
use Rattle.adpcm_nums.specs.Nibbles.{nibble}
use Rattle.adpcm_nums.specs.Least.{first_least}
use Rattle.adpcm_nums.specs.Picks.{first_of_two}
use Rattle.adpcm_nums.proofs.LeastLaws.{is_first_least}
use Rattle.adpcm_nums.proofs.NibbleValues.{nibble-high, same-code}
use Rattle.adpcm_nums.proofs.OrderLaws.{le-or-gt}
use Rattle.adpcm_nums.proofs.Picks.{Leads, itself, less, first-of-two-is}

-- the value one above, where some code has a greater value
pub next-value : (n v : ℤ) → n <ℤ v → v ≤ℤ pos 7 → int_min (n +ℤ pos 1) (pos 7) ≡ n +ℤ pos 1
next-value n v h k = grind (arith, ints)

-- costs rise below the value n and above the next one
pub record Rises (f : ℕ → ℕ) (n : ℤ) (a b : ℕ) : Type 0 where
  pub below : (c : ℕ) → c < 16 → nibble c <ℤ n → f a < f c
  pub above : (c : ℕ) → c < 16 → (n +ℤ pos 1) <ℤ nibble c → f b < f c

-- so each code is dearer than one of the two, or is one of them
leads : (f : ℕ → ℕ) (n : ℤ) (a b : ℕ) → a < 16 → b < 16 → nibble a ≡ n → nibble b ≡ int_min (n +ℤ pos 1) (pos 7) → Rises f n a b
    → (c : ℕ) → c < 16 → Leads f a c ⊎ Leads f b c
leads f n a b within_a within_b value_a value_b rises c within =
    elim (le-or-gt n (nibble c)) as (λ _. Leads f a c ⊎ Leads f b c) [
      | inr lower ↦ inl (less (rises.below c within lower))
      | inl from ↦ elim (le-or-gt (nibble c) n) as (λ _. Leads f a c ⊎ Leads f b c) [
        | inl up_to ↦ (let same : nibble c ≡ n = omega (arith, ints, from, up_to) in inl (itself (same-code c a within within_a (same ∙ sym value_a))))
        | inr higher ↦ (
            let next = next-value n (nibble c) higher (nibble-high c within) in
            elim (le-or-gt (nibble c) (n +ℤ pos 1)) as (λ _. Leads f a c ⊎ Leads f b c) [
              | inl one ↦ (let same : nibble c ≡ n +ℤ pos 1 = omega (arith, ints, higher, one) in inr (itself (same-code c b within within_b (same ∙ sym next ∙ sym value_b))))
              | inr more ↦ inr (less (rises.above c within more))
            ])
      ]
    ]

pub first-of-neighbours : (f : ℕ → ℕ) (n : ℤ) (a b i : ℕ) → a < 16 → b < 16 → nibble a ≡ n → nibble b ≡ int_min (n +ℤ pos 1) (pos 7) → Rises f n a b
    → i ≡ first_of_two f a b → i ≡ first_least f 16
first-of-neighbours f n a b i within_a within_b value_a value_b rises picked =
    picked ∙ is_first_least f 15 _ (first-of-two-is f 16 a b within_a within_b (leads f n a b within_a within_b value_a value_b rises))
