use Rattle.std.proofs.Common.{arith, refl, ◌+◌}
use Rattle.std.proofs.lemmas.Grind.{div_ceil_times}
use Rattle.machine_core.specs.Sums.{cost_at}
use Rattle.strong_bound.specs.Counted.{counted}
use Rattle.strong_bound.proofs.Totals.{sum-none, sum-more, half-below, few-blocks}
use Rattle.strong_bound.proofs.whole.strong_bound.Goals as goal

pub loop-block-init : goal.loop-block-init
loop-block-init g c =
    let d = (g.M.Machine.rules c.args.machine.now).decoder in record {
      fits = (g.met.M.Machine.lawful c.args.machine.now).start_fits;
      few = few-blocks _ c.args.blocks d.samples c.requires.some c.requires.count c.requires.few;
      small = omega arith;
      below = λ list legal. sum-none (counted d.samples (cost_at d list c.args.targets.now) c.args.blocks);
    }

pub loop-block-preserved : goal.loop-block-preserved
loop-block-preserved g c =
    let d = (g.M.Machine.rules c.args.machine.now).decoder in
    let old = c.loop-block.invariant in record {
      few = old.few;
      fits = c.block_lead-lead.ensures;
      small = omega (arith, old.small, c.window_bound-sum.ensures.most);
      below = λ list legal. sum-more (counted d.samples (cost_at d list c.args.targets.now) c.args.blocks) c.loop-block.block (c.loop-block.block + 1) c.loop-block.sum c.window_bound-sum.result refl (old.below list legal) (c.window_bound-sum.ensures.below list legal);
    }

pub returns : goal.returns
returns g c =
    let d = (g.M.Machine.rules c.args.machine.now).decoder in
    let twice = div_ceil_times c.loop-block.sum 2 (omega arith) in record {
      bound = λ list legal. half-below d list c.args.targets.now c.args.blocks c.loop-block.block c.loop-block.sum c.div_ceil.result c.requires.some (omega (arith, c.loop-block.auto.block-end, c.loop-block-test.false)) (c.loop-block.invariant.below list legal) (omega (arith, twice.1, c.div_ceil.ensures));
    }
