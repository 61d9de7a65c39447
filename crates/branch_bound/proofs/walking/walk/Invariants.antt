use Rattle.std.proofs.Common.{◌≡◌, ◌<◌, ◌*◌, IsTrue, length}
use Rattle.branch_bound.specs.Walks.{IsWalk}
use Rattle.branch_bound.proofs.walking.walk.Given as goal
use Rattle.block_steps.specs.Tables.{HoldRows, IsSpot}
use Rattle.machine_core.specs.Floors.{block_targets}

abbrev pub invariant-loop-i : goal.invariant-loop-i
invariant-loop-i g l = let m = g.M.Machine.rules l.machine in record {
  walk : IsWalk m l.targets l.blocks l.most l.total l.layers l.heads.items l.symbols.items l.state l.head l.left l.i;
  state_ok : IsTrue (m.decoder.is_state l.state);
  spot : IsSpot m l.at;
  index : l.at.index ≡ l.i;
  rows : length l.rows ≡ m.decoder.heads * m.floor_len;
  held : l.held < l.blocks → HoldRows m (block_targets m l.targets l.held) l.rows;
  head_ok : 0 < l.at.place → l.head < m.decoder.heads;
}
