use Rattle.std.proofs.Common.{length, arith}
use Rattle.machine_core.specs.Blocks.{Blocks}
use Rattle.machine_core.specs.Decoder.{miss, start}
use Rattle.machine_core.specs.Sums.{sum_after}
use Rattle.path_encoder.proofs.Hearing.{heard-on, heard-fits}
use Rattle.path_encoder.proofs.played.played.Goals as goal

pub overflow_add-sum : goal.overflow_add-sum
overflow_add-sum g c =
    let r = g.M.Machine.rules c.args.machine.now in
    let list : Blocks = record { heads = c.args.heads.now; symbols = c.args.symbols.now } in
    let small = heard-fits r (g.met.M.Machine.lawful c.args.machine.now) c.args.blocks list c.args.targets.now c.loop-i.state c.step_in-state.result c.loop-i.i c.loop-i.sum c.cost_at-sum.result
    c.requires.in_range c.requires.targets.count c.requires.targets.range c.requires.targets.few c.loop-i-test.true c.step_in-state.ensures.value c.cost_at-sum.ensures c.loop-i.invariant.left in
    record { fits = omega (arith, small) }

pub loop-i-preserved : goal.loop-i-preserved
loop-i-preserved g c =
    let r = g.M.Machine.rules c.args.machine.now in
    let list : Blocks = record { heads = c.args.heads.now; symbols = c.args.symbols.now } in
    record {
      fits = c.step_in-state.ensures.fits;
      left = heard-on r.decoder c.args.targets.now list c.loop-i.state c.step_in-state.result c.loop-i.i (length c.args.targets.now) c.loop-i.sum c.cost_at-sum.result (sum_after r.decoder (miss r.decoder c.args.targets.now) list start 0 (length c.args.targets.now))
          c.loop-i-test.true c.step_in-state.ensures.value c.cost_at-sum.ensures c.loop-i.invariant.left;
    }
