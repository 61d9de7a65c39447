use Rattle.std.proofs.Common.{◌≡◌, ℕ, ◌≤◌}
use Rattle.adpcm_nums.specs.LeastValue.{least}
use Rattle.machine_core.specs.Floors.{top}
use Rattle.box_layers.specs.Bound.{IsBound}
use Rattle.box_layers.specs.Looking.{cell_near, ended, worth}
use Rattle.box_layers.proofs.looking.see_row.Given as goal

abbrev pub invariant-loop-y : goal.invariant-loop-y
invariant-loop-y g l =
    let cells = g.L.CellList.listed l.list in record {
      place : IsBound cells (cell_near l.low l.x l.y) l.at;
      small : l.seen.best ≤ top;
      seen : (r : ℕ) → ended l.seen r ≡ least l.y (worth cells l.low l.x r) (ended l.initial.seen r);
    }
