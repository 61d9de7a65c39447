-- Boxes of decoders that keep the last two outputs: both spans lie in the span of all outputs.
use Rattle.std.proofs.Common.{◌≡◌, ℕ, ◌^◌, ◌≤◌, arith, sym, subst, true}
use Rattle.std.specs.Prelude.{ℤ, pos, ◌+ℤ◌, ◌*ℤ◌, ◌≤ℤ◌, int_le, ◌&&◌, Bool, IsTrue}
use Rattle.std.proofs.lemmas.Int.{ints}
use Rattle.std.proofs.lemmas.Bool.{and_parts, and_from}
use Rattle.adpcm_nums.specs.declared.span.Span.{Span}
use Rattle.adpcm_nums.proofs.IntTests.{from-test, to-test}
use Rattle.machine_core.specs.declared.boxes.Bx.{Bx}
use Rattle.machine_core.specs.declared.boxes.Cell.{Cell}
use Rattle.machine_core.specs.declared.pieces.Piece.{Piece}
use Rattle.machine_core.specs.Boxes.{InBox, low_corner, high_corner}
use Rattle.machine_core.specs.Cells.{Grid, is_level, is_run, run_span, is_cell, cell_box}
use Rattle.machine_core.proofs.CellLaws.{level-is, run-inside}

-- both ends are outputs
abbrev pub is_inside : Span → Span → Bool
is_inside all s = (int_le all.lo s.lo && int_le s.lo all.hi) && (int_le all.lo s.hi && int_le s.hi all.hi)

abbrev pub is_outputs : Span → Bx → Bool
is_outputs all bx = is_inside all bx.a && is_inside all bx.b

-- the box of all states
abbrev pub square : Span → Bx
square all = record { a = all; b = all }

-- a span of outputs
pub record IsInside (all s : Span) : Type 0 where
  pub low : all.lo ≤ℤ s.lo
  pub high : s.hi ≤ℤ all.hi

from-inside : (all s : Span) → IsTrue (is_inside all s) → IsInside all s
from-inside all s is =
    let parts = and_parts (int_le all.lo s.lo && int_le s.lo all.hi) (int_le all.lo s.hi && int_le s.hi all.hi) is in
    let first = and_parts (int_le all.lo s.lo) (int_le s.lo all.hi) parts.0 in
    let last = and_parts (int_le all.lo s.hi) (int_le s.hi all.hi) parts.1 in
    record { low = from-test all.lo s.lo first.0; high = from-test s.hi all.hi last.1 }

to-inside : (all s : Span) → IsInside all s → IsTrue (is_inside all s)
to-inside all s is =
    let low = is.low in let high = is.high in let order = s.order in
    and_from (int_le all.lo s.lo && int_le s.lo all.hi) (int_le all.lo s.hi && int_le s.hi all.hi)
    (and_from (int_le all.lo s.lo) (int_le s.lo all.hi) (to-test all.lo s.lo low) (to-test s.lo all.hi (omega (arith, ints))))
    (and_from (int_le all.lo s.hi) (int_le s.hi all.hi) (to-test all.lo s.hi (omega (arith, ints))) (to-test s.hi all.hi high))

last-inside : (all : Span) (bx : Bx) → IsTrue (is_outputs all bx) → IsInside all bx.a
last-inside all bx is = from-inside all bx.a (and_parts (is_inside all bx.a) (is_inside all bx.b) is).0

older-inside : (all : Span) (bx : Bx) → IsTrue (is_outputs all bx) → IsInside all bx.b
older-inside all bx is = from-inside all bx.b (and_parts (is_inside all bx.a) (is_inside all bx.b) is).1

-- a box's corners are states
pub corners-inside : (all : Span) (bx : Bx) → IsTrue (is_outputs all bx) → InBox (low_corner bx) (square all) × InBox (high_corner bx) (square all)
corners-inside all bx is =
    let a = last-inside all bx is in let al = a.low in let ah = a.high in let ao = bx.a.order in
    let b = older-inside all bx is in let bl = b.low in let bh = b.high in let bo = bx.b.order in (
      record { in_a = record { above = al; below = omega (arith, ints) }; in_b = record { above = bl; below = omega (arith, ints) } },
      record { in_a = record { above = omega (arith, ints); below = ah }; in_b = record { above = omega (arith, ints); below = bh } },
    )

-- a piece of outputs, after this span of last outputs
pub record IsOutputs (all last : Span) (q : Piece) : Type 0 where
  pub inside : IsInside all q.bx.a
  pub after : q.bx.b ≡ last
  pub small : q.cost ≤ 2 ^ 34

-- after a box's last outputs it is a box
pub piece-is-box : (all : Span) (bx : Bx) (q : Piece) → IsTrue (is_outputs all bx) → IsOutputs all bx.a q → IsTrue (is_outputs all q.bx)
piece-is-box all bx q is piece =
    and_from (is_inside all q.bx.a) (is_inside all q.bx.b) (to-inside all q.bx.a piece.inside)
    (subst (λ (s : Span). IsTrue (is_inside all s)) (sym piece.after) (to-inside all bx.a (last-inside all bx is)))

-- how states are cut whose two numbers are outputs
abbrev pub output_grid : Span → Grid
output_grid all = record { whole = square all; cuts_b = true }

run-outputs : (all : Span) (n m : ℤ) (level : ℕ) (run : ℤ) → all.lo ≡ pos 256 *ℤ n → all.hi +ℤ pos 1 ≡ pos 256 *ℤ m → IsTrue (is_level level) → IsTrue (is_run level all run)
    → IsTrue (is_inside all (run_span level run))
run-outputs all n m level run a b h fits =
    let ends = run-inside level all n m run (level-is level h) a b fits in to-inside all (run_span level run) (record { low = ends.0; high = ends.1 })

-- where all outputs are runs of 256 numbers, cells are boxes
pub cell-is-box : (all : Span) (n m : ℤ) (level : ℕ) (cell : Cell) → all.lo ≡ pos 256 *ℤ n → all.hi +ℤ pos 1 ≡ pos 256 *ℤ m → IsTrue (is_level level)
    → IsTrue (is_cell (output_grid all) level cell) → IsTrue (is_outputs all (cell_box (output_grid all) level cell))
cell-is-box all n m level cell a b h is =
    let parts = and_parts (is_run level all cell.a) (is_run level all cell.b) is in
    and_from (is_inside all (run_span level cell.a)) (is_inside all (run_span level cell.b)) (run-outputs all n m level cell.a a b h parts.0) (run-outputs all n m level cell.b a b h parts.1)
