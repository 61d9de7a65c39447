-- Steps that rise, few enough and small enough to be added to the ends of intervals.
use Rattle.std.specs.Prelude.{ℕ, ◌<◌, ◌≤◌, ◌^◌, ℤ, pos, negsuc, ◌≤ℤ◌, List, length, get_or}

pub record IsLadder (steps : List ℤ) : Type 0 where
  pub low : (i : ℕ) → i < length steps → negsuc (2 ^ 24) ≤ℤ get_or steps i (pos 0)
  pub high : (i : ℕ) → i < length steps → get_or steps i (pos 0) ≤ℤ pos (2 ^ 24)
  pub rises : (i j : ℕ) → i ≤ j → j < length steps → get_or steps i (pos 0) ≤ℤ get_or steps j (pos 0)
