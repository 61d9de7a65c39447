use Rattle.std.proofs.Common.{length, arith}
use Rattle.machine_core.specs.Decoder.{miss, start}
use Rattle.machine_core.specs.Sums.{sum_after}
use Rattle.player_model.specs.Stored.{blocks_in}
use Rattle.bank_check.proofs.Heard.{heard-on, heard-fits}
use Rattle.bank_check.proofs.hearing.stored_error.Goals as goal

pub overflow_add-sum : goal.overflow_add-sum
overflow_add-sum g c =
    let r = g.C.Machine.rules c.args.codec.now in
    let list = blocks_in r.decoder (g.C.Stored.format c.args.codec.now) c.args.memory.now c.args.start c.args.blocks in
    let small = heard-fits r (g.met.C.Machine.lawful c.args.codec.now) c.args.blocks list c.args.targets.now c.loop-i.state c.step_in-state.result c.loop-i.i c.loop-i.sum c.cost_at-sum.result c.requires.in_range c.requires.count c.requires.range c.requires.few
    c.loop-i-test.true c.step_in-state.ensures.value c.cost_at-sum.ensures c.loop-i.invariant.left in
    record { fits = omega (arith, small) }

pub loop-i-preserved : goal.loop-i-preserved
loop-i-preserved g c =
    let r = g.C.Machine.rules c.args.codec.now in
    let list = blocks_in r.decoder (g.C.Stored.format c.args.codec.now) c.args.memory.now c.args.start c.args.blocks in
    record {
      fits = c.step_in-state.ensures.fits;
      left = heard-on r.decoder c.args.targets.now list c.loop-i.state c.step_in-state.result c.loop-i.i (length c.args.targets.now) c.loop-i.sum c.cost_at-sum.result (sum_after r.decoder (miss r.decoder c.args.targets.now) list start 0 (length c.args.targets.now))
          c.loop-i-test.true c.step_in-state.ensures.value c.cost_at-sum.ensures c.loop-i.invariant.left;
    }
