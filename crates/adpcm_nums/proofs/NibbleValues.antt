-- The values of codes of four bits: between which numbers they lie, and which code a value has.
use Rattle.std.proofs.Common.{◌≡◌, ℕ, ◌-◌, ◌<◌, arith}
use Rattle.std.specs.Prelude.{ℤ, pos, negsuc, ◌≤ℤ◌}
use Rattle.std.proofs.lemmas.Int.{ints}
use Rattle.std.proofs.lemmas.Bool.Decides.{nat_tests}
use Rattle.adpcm_nums.specs.Nibbles.{nibble}

-- the lowest value is -8
pub nibble-low : (c : ℕ) → c < 16 → negsuc 7 ≤ℤ nibble c
nibble-low c h = grind (arith, ints, nat_tests)

-- the highest is 7
pub nibble-high : (c : ℕ) → c < 16 → nibble c ≤ℤ pos 7
nibble-high c h = grind (arith, ints, nat_tests)

-- no two codes have one value
pub same-code : (c a : ℕ) → c < 16 → a < 16 → nibble c ≡ nibble a → c ≡ a
same-code c a h k e = grind (arith, ints, nat_tests)

-- each value has a code
pub code-of : (n : ℤ) → negsuc 7 ≤ℤ n → n ≤ℤ pos 7 → (i : ℕ) × (i < 16) × (nibble i ≡ n)
code-of (pos a) h k = let small : a < 8 = omega (arith, ints) in (a, omega arith, grind (arith, ints, nat_tests))
code-of (negsuc a) h k = let small : a < 8 = omega (arith, ints) in (15 - a, omega arith, grind (arith, ints, nat_tests))
