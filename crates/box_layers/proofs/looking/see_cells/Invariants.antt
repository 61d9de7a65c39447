use Rattle.std.proofs.Common.{◌≡◌, ℕ, ◌≤◌}
use Rattle.adpcm_nums.specs.LeastValue.{least}
use Rattle.machine_core.specs.Floors.{top}
use Rattle.box_layers.specs.Cells.{value_of}
use Rattle.box_layers.specs.Looking.{or_else, cell_near, span_count, ended}
use Rattle.box_layers.proofs.looking.see_cells.Given as goal

abbrev pub invariant-loop-x : goal.invariant-loop-x
invariant-loop-x g l =
    let cells = g.L.CellList.listed l.list in record {
      small : l.seen.best ≤ top;
      seen : (r : ℕ) → r ≤ top → ended l.seen r ≡ least l.x (λ x. least (span_count l.fn.low.b l.fn.high.b) (λ y. or_else (value_of cells (cell_near l.low x y)) r) top) top;
    }
