-- How large the numbers of a step can be.
use Rattle.std.proofs.Common.{◌≡◌, ℕ, suc, ◌*◌, ◌^◌, ◌<◌, ◌≤◌, arith, refl, if◌then◌else◌, Bool, true, false}
use Rattle.std.specs.Prelude.{ℤ, pos, negsuc, ◌*ℤ◌, ◌≤ℤ◌, nat_lt}
use Rattle.std.proofs.lemmas.Int.{ints}
use Rattle.std.proofs.Math.Nat.{mul-le-mul, pow-le-pow_right}
use Rattle.std.proofs.lemmas.Bool.{ltb-true}
use Rattle.adpcm_nums.specs.Nums.{floor_of}
use Rattle.adpcm_nums.specs.Nibbles.{nibble}
use Rattle.adpcm_nums.proofs.NibbleValues.{nibble-low, nibble-high}
use Rattle.adpcm_nums.proofs.NearestLaws.{floor-low, floor-high}
use Rattle.brr_machine.specs.Brr.{sample_of}

product-low : (n : ℤ) (p : ℕ) → negsuc 7 ≤ℤ n → n ≤ℤ pos 7 → p ≤ 4096 → negsuc 32767 ≤ℤ (n *ℤ pos p)
product-low (pos a) p l h q = omega (arith, ints)
product-low (negsuc a) p l h q = let e : suc a ≤ 8 = omega (arith, ints) in let m : suc a * p ≤ 8 * 4096 = mul-le-mul e q in omega (arith, ints)

product-high : (n : ℤ) (p : ℕ) → negsuc 7 ≤ℤ n → n ≤ℤ pos 7 → p ≤ 4096 → (n *ℤ pos p) ≤ℤ pos 28672
product-high (pos a) p l h q = let e : a ≤ 7 = omega (arith, ints) in let m : a * p ≤ 7 * 4096 = mul-le-mul e q in omega (arith, ints)
product-high (negsuc a) p l h q = omega (arith, ints)

pub power : (s : ℕ) → s < 13 → 2 ^ s ≤ 4096
power s h = let p : 0 < 2 = omega arith in let q : s ≤ 12 = omega arith in pow-le-pow_right p q

pub shifted-low : (s c : ℕ) → s < 13 → c < 16 → negsuc 16383 ≤ℤ floor_of (nibble c *ℤ pos (2 ^ s)) 2
shifted-low s c h k =
    let l = product-low (nibble c) (2 ^ s) (nibble-low c k) (nibble-high c k) (power s h) in
    let f = floor-high (nibble c *ℤ pos (2 ^ s)) 2 (omega arith) in omega (arith, ints)

pub shifted-high : (s c : ℕ) → s < 13 → c < 16 → floor_of (nibble c *ℤ pos (2 ^ s)) 2 ≤ℤ pos 16383
shifted-high s c h k =
    let l = product-high (nibble c) (2 ^ s) (nibble-low c k) (nibble-high c k) (power s h) in
    let f = floor-low (nibble c *ℤ pos (2 ^ s)) 2 (omega arith) in omega (arith, ints)

sample-low-if : (b d : Bool) (x : ℤ) → (b ≡ true → negsuc 16383 ≤ℤ x) → negsuc 16383 ≤ℤ (if b then x else (if d then pos 0 else negsuc 2047))
sample-low-if true d x h = h refl
sample-low-if false true x h = omega (arith, ints)
sample-low-if false false x h = omega (arith, ints)

sample-high-if : (b d : Bool) (x : ℤ) → (b ≡ true → x ≤ℤ pos 16383) → (if b then x else (if d then pos 0 else negsuc 2047)) ≤ℤ pos 16383
sample-high-if true d x h = h refl
sample-high-if false true x h = omega (arith, ints)
sample-high-if false false x h = omega (arith, ints)

pub sample_low : (s c : ℕ) → c < 16 → negsuc 16383 ≤ℤ sample_of s c
unfolding sample_of
sample_low s c k = sample-low-if (nat_lt s 13) (nat_lt c 8) _ (λ e. shifted-low s c (ltb-true _ _ e) k)

pub sample_high : (s c : ℕ) → c < 16 → sample_of s c ≤ℤ pos 16383
unfolding sample_of
sample_high s c k = sample-high-if (nat_lt s 13) (nat_lt c 8) _ (λ e. shifted-high s c (ltb-true _ _ e) k)
