use Rattle.std.proofs.Common.{◌≡◌, ℕ, ◌+◌, ◌-◌, ◌*◌, ◌^◌, ◌≤◌, length, get_or}
use Rattle.machine_core.specs.Blocks.{must_forget}
use Rattle.machine_core.specs.Floors.{floors_from}
use Rattle.machine_core.proofs.floors.fill_rests.Given as goal

abbrev pub invariant-loop-block : goal.invariant-loop-block
invariant-loop-block g l =
    let rules = g.M.Machine.rules l.machine in record {
      size : length l.rests ≡ l.blocks + 1;
      within : l.block ≤ l.blocks;
      small : l.sum ≤ (l.blocks - l.block) * (rules.decoder.samples * 2 ^ 36);
      so_far : l.sum ≡ floors_from rules (must_forget rules.kind l.loop_block) l.targets l.block (l.blocks - l.block);
      holds : (b : ℕ) → l.block ≤ b → b ≤ l.blocks → get_or l.rests b 0 ≡ floors_from rules (must_forget rules.kind l.loop_block) l.targets b (l.blocks - b);
    }

abbrev pub decreases-loop-block : goal.decreases-loop-block
decreases-loop-block g l = l.block
