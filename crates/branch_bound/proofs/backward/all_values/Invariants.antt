use Rattle.std.proofs.Common.{◌≡◌, ◌<◌, ◌*◌, length}
use Rattle.branch_bound.specs.Worth.{AreBacked, prior}
use Rattle.branch_bound.proofs.backward.all_values.Given as goal
use Rattle.block_steps.specs.Tables.{HoldRows}
use Rattle.machine_core.specs.Floors.{block_targets}

abbrev pub invariant-loop-k : goal.invariant-loop-k
invariant-loop-k g l = let m = g.M.Machine.rules l.machine in record {
  backed : AreBacked m l.targets l.blocks l.level l.most l.fronts l.values (l.blocks * m.decoder.samples) l.k;
  next : l.next.items ≡ prior l.values l.k;
  rows : length l.rows ≡ m.decoder.heads * m.floor_len;
  held : l.held < l.blocks → HoldRows m (block_targets m l.targets l.held) l.rows;
}
