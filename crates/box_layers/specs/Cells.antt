-- Cells in order, and what is listed for them.
use Rattle.std.specs.Prelude.{ℕ, ℤ, pos, int_lt, int_le, Bool, true, false, IsTrue, List, [], ◌∷◌, if◌then◌else◌, ◌&&◌, Option, Some, None, slice_index_or}
use Rattle.std.specs.Bool.{⊤}
use Rattle.machine_core.specs.declared.boxes.Cell.{Cell}
use Rattle.box_layers.specs.declared.cell_value.CellValue.{CellValue}

-- in the order by a, then by b
unfoldable pub before : Cell → Cell → Bool
before c d = if int_lt c.a d.a then true else (if int_lt d.a c.a then false else int_lt c.b d.b)

abbrev pub in_range : ℤ → ℤ → ℤ → Bool
in_range low high x = int_le low x && int_le x high

unfoldable pub same_cell : Cell → Cell → Bool
same_cell c d = in_range c.a c.a d.a && in_range c.b c.b d.b

-- the cell stands before all of these
abbrev pub IsAfterAll : Cell → List CellValue → Type 0
IsAfterAll c [] = ⊤
IsAfterAll c (x ∷ xs) = IsTrue (before c x.cell) × IsAfterAll c xs

-- each cell stands before all that follow it
abbrev pub IsAscending : List CellValue → Type 0
IsAscending [] = ⊤
IsAscending (x ∷ xs) = IsAfterAll x.cell xs × IsAscending xs

-- the value that is listed for a cell
abbrev pub value_of : List CellValue → Cell → Option ℕ
value_of [] c = None
value_of (x ∷ xs) c = if same_cell x.cell c then Some x.value else value_of xs c

-- cell number k of a list with its value
abbrev pub nth : List CellValue → ℕ → CellValue
nth cells k = slice_index_or cells k (record { cell = record { a = pos 0; b = pos 0 }; value = 0 })
