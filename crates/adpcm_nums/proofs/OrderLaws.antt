-- The order of whole numbers, and where a number lands that is brought into lo..hi.
use Rattle.std.proofs.Common.{◌≡◌, arith, ◌⊎◌}
use Rattle.std.specs.Prelude.{ℤ, ◌≤ℤ◌, ◌<ℤ◌}
use Rattle.std.proofs.lemmas.Int.{ints}
use Rattle.adpcm_nums.specs.Nearest.{within_of}

-- of two numbers the first is at most the second, or above it
pub le-or-gt : (x y : ℤ) → (x ≤ℤ y) ⊎ (y <ℤ x)
le-or-gt x y = grind (arith, ints)

-- a number below lo lands on lo
pub low-is : (lo hi x : ℤ) → lo ≤ℤ hi → x <ℤ lo → within_of lo hi x ≡ lo
low-is lo hi x o h = grind (arith, ints)

-- one above hi on hi
pub high-is : (lo hi x : ℤ) → lo ≤ℤ hi → hi <ℤ x → within_of lo hi x ≡ hi
high-is lo hi x o h = grind (arith, ints)

-- and one between them on itself
pub inside-is : (lo hi x : ℤ) → lo ≤ℤ x → x ≤ℤ hi → within_of lo hi x ≡ x
inside-is lo hi x h k = grind (arith, ints)
