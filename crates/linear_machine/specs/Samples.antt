-- What the sixteen codes of a head stand for.
use Rattle.std.specs.Prelude.{ℕ, ℤ, List, map}
use Rattle.std.specs.List.{range_with_len}

-- the samples of the codes in order
unfoldable pub samples_by : (ℕ → ℤ) → List ℤ
samples_by sample = map sample (range_with_len 0 16)
