-- Floors under the error of the rest of a block under a head, whatever its codes and whatever the state before it.
use Rattle.std.specs.Prelude.{◌≡◌, ◌⊎◌, ℕ, zero, suc, ◌+◌, ◌%◌, max, ℤ, pos, unsigned_abs, List, get_or}
use Rattle.adpcm_nums.specs.LeastValue.{least_of}
use Rattle.adpcm_nums.specs.Sample.{IsSample, AreSamples}
use Rattle.window_floor.specs.Row.{Row, size_of, IsNormed}
use Rattle.window_floor.specs.Floor.{output_cost, window_floor}
use Rattle.window_floor.specs.Cut.{own_floor, cut_floor}

-- how the places of a block under a head are tied together
pub record Windows : Type 0 where
  -- places in a block
  pub places : ℕ
  -- the head's filter
  pub row : Row
  -- what the sixteen codes stand for
  pub samples : List ℤ
  -- the two outputs that clamping leaves
  pub first : ℤ
  pub second : ℤ

abbrev pub target_at : List ℤ → ℕ → ℤ
target_at targets p = get_or targets p (pos 0)

-- how far a target is from every multiple of the scale, squared: outputs that count twice do not meet odd targets
unfoldable pub single_floor : Row → ℤ → ℕ
single_floor w target = unsigned_abs target % unsigned_abs w.scale

-- what the nearest sample costs
unfoldable pub sample_floor : Row → List ℤ → ℤ → ℕ
sample_floor w samples target = least_of (λ i. output_cost w (get_or samples i (pos 0)) target) 15

-- the floor of a window of one place, where the outputs are the samples; every window counts for at least its places alone
unfoldable pub one_window : Windows → ℤ → ℕ
one_window b x = max (sample_floor b.row b.samples x) (single_floor b.row x)

-- of two places
unfoldable pub two_window : Windows → ℤ → ℤ → ℕ
two_window b o x = max (window_floor b.row b.samples b.first b.second (pos 0) o x) (single_floor b.row o + single_floor b.row x)

-- of three places
unfoldable pub three_window : Windows → ℤ → ℤ → ℤ → ℕ
three_window b r o x =
    max (window_floor b.row b.samples b.first b.second r o x) (single_floor b.row r + single_floor b.row o + single_floor b.row x)

-- the floor of a window of this size from place p on
unfoldable pub window_at : Windows → ℕ → List ℤ → ℕ → ℕ
window_at b (suc zero) targets p = one_window b (target_at targets p)
window_at b (suc (suc zero)) targets p = two_window b (target_at targets p) (target_at targets (p + 1))
window_at b _ targets p = three_window b (target_at targets p) (target_at targets (p + 1)) (target_at targets (p + 2))

-- the floor of the window or the single place that begins at place p, or 0
unfoldable pub own_at : Windows → List ℤ → ℕ → ℕ
own_at b targets p = own_floor b.places (size_of b.row) (window_at b (size_of b.row) targets) (λ q. single_floor b.row (target_at targets q)) p

-- the floor under all that comes from place p on
unfoldable pub floor_from : Windows → List ℤ → ℕ → ℕ
floor_from b targets p = cut_floor b.places (size_of b.row) (window_at b (size_of b.row) targets) (λ q. single_floor b.row (target_at targets q)) p

-- the numbers of the windows are in range
pub record IsSound (b : Windows) : Type 0 where
  pub scale : (b.row.scale ≡ pos 1) ⊎ (b.row.scale ≡ pos 2)
  pub normed : IsNormed b.row
  pub clamped : IsSample b.first
  pub samples_fit : AreSamples b.samples
