use Rattle.std.proofs.Common.{◌≡◌, ◌+◌, ◌-◌, ◌*◌, ◌^◌, ◌≤◌}
use Rattle.machine_core.specs.Blocks.{must_forget}
use Rattle.machine_core.specs.Floors.{floors_from}
use Rattle.machine_core.proofs.floors.floor_of_blocks.Given as goal

abbrev pub invariant-loop-block : goal.invariant-loop-block
invariant-loop-block g l =
    let rules = g.M.Machine.rules l.machine in record {
      small : l.sum ≤ l.block * (rules.decoder.samples * 2 ^ 36);
      so_far : l.sum + floors_from rules (must_forget rules.kind l.loop_block) l.targets l.block (l.blocks - l.block) ≡ floors_from rules (must_forget rules.kind l.loop_block) l.targets 0 l.blocks;
    }
