use Rattle.std.proofs.Common.{IsTrue, ◌≤◌, ◌*◌, ◌^◌}
use Rattle.adpcm_nums.specs.declared.limits.TheConstants.{MOST_SAMPLES}
use Rattle.machine_core.specs.Blocks.{Blocks, IsLegal, must_forget}
use Rattle.machine_core.specs.Sums.{cost_at}
use Rattle.row_bound.specs.Windows.{sum_from}
use Rattle.strong_bound.specs.Counted.{counted}
use Rattle.strong_bound.proofs.whole.strong_bound.Given as goal

abbrev pub invariant-loop-block : goal.invariant-loop-block
invariant-loop-block g l =
    let rules = g.M.Machine.rules l.machine in record {
      few : l.blocks ≤ MOST_SAMPLES;
      small : l.sum ≤ l.block * 2 ^ 40;
      below : (list : Blocks) → IsLegal rules.decoder l.blocks (must_forget rules.kind l.loop_block) list → l.sum ≤ sum_from (counted rules.decoder.samples (cost_at rules.decoder list l.targets) l.blocks) 0 l.block;
      fits : IsTrue (rules.decoder.is_state l.state);
    }
