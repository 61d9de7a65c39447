-- Writing an item into a list, over one that is there or behind the last.
use Rattle.std.specs.Prelude.{ℕ, zero, suc, List, [], ◌∷◌}

-- the list with an item in the given place; a place past the end is the one behind the last
abbrev pub written : {T : Type 0} → List T → ℕ → T → List T
written [] place item = item ∷ []
written (x ∷ xs) zero item = item ∷ xs
written (x ∷ xs) (suc place) item = x ∷ written xs place item
