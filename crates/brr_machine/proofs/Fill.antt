-- An array that is filled from the front.
use Rattle.std.proofs.Common.{◌≡◌, ℕ, ◌+◌, ◌<◌, List, map, length, take, set, get_or, arith}
use Rattle.std.specs.Prelude.{ℤ, All}
use Rattle.std.proofs.lemmas.Grind.{common_steps, elements}

-- one more code
pub codes_more : (f : ℤ → ℕ) (codes : List ℕ) (targets : List ℤ) (i v : ℕ) (d : ℤ) → i < length codes → i < length targets
    → take i codes ≡ map f (take i targets) → v ≡ f (get_or targets i d) → take (i + 1) (set codes i v) ≡ map f (take (i + 1) targets)
codes_more f codes targets i v d inside within front is = grind (arith, common_steps)

-- one more code that is in range
pub range_more : (codes : List ℕ) (i v : ℕ) → i < length codes → All (λ c. c < 16) (take i codes) → v < 16 → All (λ c. c < 16) (take (i + 1) (set codes i v))
range_more codes i v inside front small = grind (arith, elements)
