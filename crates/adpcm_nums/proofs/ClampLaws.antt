-- What is clamped has 16 bits, and stands in the order of what it was.
use Rattle.std.proofs.Common.{◌≡◌, arith}
use Rattle.std.specs.Prelude.{ℤ, pos, negsuc, ◌≤ℤ◌, ◌<ℤ◌}
use Rattle.std.specs.Int.{int_max}
use Rattle.std.proofs.lemmas.Int.{ints}
use Rattle.adpcm_nums.specs.Nums.{clamp16_of}
use Rattle.adpcm_nums.specs.Sample.{IsSample}

pub clamped : (x : ℤ) → IsSample (clamp16_of x)
clamped x = record { low = grind (arith, ints); high = grind (arith, ints) }

-- a number is clamped low, clamped high, or left
pub clamp-under : (x : ℤ) → x <ℤ negsuc 32767 → clamp16_of x ≡ negsuc 32767
clamp-under x h = grind (arith, ints)

pub clamp-over : (x : ℤ) → pos 32767 <ℤ x → clamp16_of x ≡ pos 32767
clamp-over x h = grind (arith, ints)

pub clamp-in : (x : ℤ) → negsuc 32767 ≤ℤ x → x ≤ℤ pos 32767 → clamp16_of x ≡ x
clamp-in x h k = grind (arith, ints)

pub clamp-rises : (x y : ℤ) → x ≤ℤ y → clamp16_of x ≤ℤ clamp16_of y
clamp-rises x y h = grind (arith, ints)

-- of two numbers in order the second is the greater
pub greater-is : (x y : ℤ) → x ≤ℤ y → int_max x y ≡ y
greater-is x y h = grind (arith, ints)
