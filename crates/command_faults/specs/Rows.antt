-- The parts of a fault's line: its kind, and what follows it.
use Rattle.std.specs.Prelude.{ℕ, pos, List, [], ◌∷◌, map}
use Rattle.report_text.specs.declared.part.LinePart.{LinePart}
use Rattle.report_text.specs.declared.part.LinePart.TheVariants.{Word, Number}

-- a kind and its numbers
unfoldable pub row : List ℕ → List ℕ → List LinePart
row kind numbers = Word kind ∷ map (λ n. Number (pos n)) numbers

-- a kind and the text that it is about
unfoldable pub text_row : List ℕ → List ℕ → List LinePart
text_row kind text = Word kind ∷ Word text ∷ []
