-- Signed numbers of 16 bits.
use Rattle.std.specs.Prelude.{ℤ, pos, negsuc, ◌≤ℤ◌, List, All}

-- a signed number of 16 bits
pub record IsSample (x : ℤ) : Type 0 where
  pub low : negsuc 32767 ≤ℤ x
  pub high : x ≤ℤ pos 32767

-- each number of a list is one
abbrev pub AreSamples : List ℤ → Type 0
AreSamples xs = All IsSample xs
