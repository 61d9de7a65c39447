use Rattle.std.proofs.Common.{◌≡◌, ◌<◌, ◌*◌, length, drop}
use Rattle.machine_core.specs.Floors.{block_targets}
use Rattle.cert_check.specs.Layers.{certificate_of, from_here}
use Rattle.block_steps.specs.Tables.{HoldRows}
use Rattle.cert_check.specs.Faults.{LayersHold}
use Rattle.cert_check.proofs.whole.check_layers.Given as goal

abbrev pub invariant-loop-j : goal.invariant-loop-j
invariant-loop-j g l = let m = g.M.Machine.rules l.machine in
    record {
      rest : from_here l.next ≡ drop l.j l.segment.layers;
      rows : length l.rows ≡ m.decoder.heads * m.floor_len;
      filled : l.filled < l.segment.blocks → HoldRows m (block_targets m l.targets l.filled) l.rows;
      hold : LayersHold m l.targets (certificate_of m l.segment.layers l.segment.level l.segment.blocks) l.segment.layers l.j;
    }
