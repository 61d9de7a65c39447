use Rattle.std.proofs.Common.{◌≡◌, ◌≤◌, ◌+◌, ◌-◌, ℕ, get_or, min, length}
use Rattle.machine_core.specs.Blocks.{first_only}
use Rattle.machine_core.specs.Floors.{top, floors_from}
use Rattle.block_steps.proofs.floors.fill_later.Given as goal

abbrev pub invariant-loop-k : goal.invariant-loop-k
invariant-loop-k g l = let m = g.M.Machine.rules l.machine in
    record {
      count : l.blocks + 1 ≤ length l.later;
      each : (b : ℕ) → l.blocks ≤ b + l.k → b ≤ l.blocks → get_or l.later b 0 ≡ min top (floors_from m first_only l.targets b (l.blocks - b));
    }
