-- How the outputs of a block under a head follow one another, whatever its codes and whatever the outputs before them.
use Rattle.std.specs.Prelude.{◌≡◌, ℕ, suc, ◌<◌, ◌≤◌, ℤ, pos, List, get_or}
use Rattle.window_floor.specs.Row.{size_of}
use Rattle.window_floor.specs.Outcome.{IsOutcome}
use Rattle.window_floor.specs.Windows.{Windows}

-- y is one of sixteen samples
pub record IsOneOf (samples : List ℤ) (y : ℤ) : Type 0 where
  pub code : ℕ
  pub within : code < 16
  pub is : y ≡ get_or samples code (pos 0)

-- the outputs y of the places from `from` on follow one another as the row says
pub record Follow (b : Windows) (from : ℕ) (y : ℕ → ℤ) : Type 0 where
  -- an output is a sample, where the row ties no places together
  pub one : size_of b.row ≡ 1 → (p : ℕ) → from ≤ p → p < b.places → IsOneOf b.samples (y p)
  -- it may come after the one before it, and after any output r before that
  pub two : size_of b.row ≡ 2 → (p : ℕ) → from ≤ p → suc p < b.places → (r : ℤ) × IsOutcome b.row b.samples b.first b.second r (y p) (y (suc p))
  -- it may come after the two before it
  pub three : size_of b.row ≡ 3 → (p : ℕ) → from ≤ p → suc (suc p) < b.places → IsOutcome b.row b.samples b.first b.second (y p) (y (suc p)) (y (suc (suc p)))
