use Rattle.std.proofs.Common.{◌≡◌, suc, ◌<◌, ◌*◌, length}
use Rattle.open_cells.specs.Counts.{IsBuilt, nodes_at}
use Rattle.open_cells.proofs.layers.all_layers.Given as goal
use Rattle.block_steps.specs.Tables.{HoldRows, IsSpot}
use Rattle.machine_core.specs.Floors.{block_targets}

abbrev pub invariant-loop-i : goal.invariant-loop-i
invariant-loop-i g l = let m = g.M.Machine.rules l.machine in record {
  built : IsBuilt m l.targets l.blocks l.level l.most l.share l.layers l.i l.count;
  front : l.front.items ≡ nodes_at l.layers l.at.index;
  spot : IsSpot m l.at;
  index : suc l.at.index ≡ l.i;
  rows : length l.rows ≡ m.decoder.heads * m.floor_len;
  held : 0 < l.at.place → HoldRows m (block_targets m l.targets l.at.block) l.rows;
}
