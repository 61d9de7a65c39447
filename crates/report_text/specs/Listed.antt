-- A report of some samples.
use Rattle.std.specs.Prelude.{ℕ, List, ◌++◌, length}
use Rattle.std.specs.List.{flat_map}
use Rattle.report_text.specs.Report.{done_line}

-- a line for each, and the line that ends the report, where so many files are stored
unfoldable pub report_of : {X : Type 0} → (X → List ℕ) → List X → ℕ → List ℕ
report_of line items files = flat_map line items ++ done_line (length items) files
