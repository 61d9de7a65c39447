-- Each place adds the nearest symbol's cost, and costs only grow: so what passes the limit stays above it.
use Rattle.std.proofs.Common.{◌<◌, ◌+◌, arith}
use Rattle.beam_encoder.proofs.NearLaws.{near_none, near_more, near_sum-grows, near_sum-small}
use Rattle.beam_encoder.proofs.layer.after_under.Goals as goal

pub loop-pos-init : goal.loop-pos-init
loop-pos-init g c = record { near = near_none _ _ _ _; fits = c.requires.from }

pub overflow_add-sum : goal.overflow_add-sum
overflow_add-sum g c =
    let r = g.M.Machine.rules c.args.machine.now in
    let laws = g.met.M.Machine.lawful c.args.machine.now in
    let within : c.loop-pos.pos < r.decoder.samples = (let e = c.block_samples-pos-end.ensures in omega arith) in
    let taken = c.near-taken.ensures in
    let more = near_more r.decoder c.args.head c.args.block.now c.args.from c.loop-pos.pos _ _ _ _ _ c.requires.block within c.loop-pos.invariant.near taken.symbol taken.state taken.cost in
    let small = near_sum-small r laws c.args.head c.args.block.now c.args.from (c.loop-pos.pos + 1) c.requires.head (omega arith) c.requires.block c.requires.from in
    let sum = more.sum in omega arith

pub returns-then-sum-most-clause-none : goal.returns-then-sum-most-clause-none
returns-then-sum-most-clause-none g c = λ _.
    let r = g.M.Machine.rules c.args.machine.now in
    let within : c.loop-pos.pos < r.decoder.samples = (let e = c.block_samples-pos-end.ensures in omega arith) in
    let taken = c.near-taken.ensures in
    let more = near_more r.decoder c.args.head c.args.block.now c.args.from c.loop-pos.pos _ _ _ _ _ c.requires.block within c.loop-pos.invariant.near taken.symbol taken.state taken.cost in
    let grows = near_sum-grows r.decoder c.args.head c.args.block.now c.args.from (c.loop-pos.pos + 1) r.decoder.samples (omega arith) in
    let sum = more.sum in omega arith

pub loop-pos-preserved : goal.loop-pos-preserved
loop-pos-preserved g c =
    let r = g.M.Machine.rules c.args.machine.now in
    let within : c.loop-pos.pos < r.decoder.samples = (let e = c.block_samples-pos-end.ensures in omega arith) in
    let taken = c.near-taken.ensures in
    record {
      near = near_more r.decoder c.args.head c.args.block.now c.args.from c.loop-pos.pos _ _ _ _ _ c.requires.block within c.loop-pos.invariant.near taken.symbol taken.state taken.cost;
      fits = taken.fits;
    }
