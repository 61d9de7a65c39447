use Rattle.std.proofs.Common.{◌≡◌, ◌<◌, ◌≤◌, ◌-◌, ℕ, length, true, false}
use Rattle.box_layers.specs.Cells.{before, nth}
use Rattle.box_layers.proofs.cell_list.seek.Given as goal

abbrev pub invariant-loop-low : goal.invariant-loop-low
invariant-loop-low g l =
    let cells = g.L.CellList.listed l.list in record {
      order : l.low ≤ l.high;
      within : l.high ≤ length cells;
      below : (k : ℕ) → k < l.low → before (nth cells k).cell l.c ≡ true;
      from : (k : ℕ) → l.high ≤ k → k < length cells → before (nth cells k).cell l.c ≡ false;
    }

abbrev pub decreases-loop-low : goal.decreases-loop-low
decreases-loop-low g l = l.high - l.low
