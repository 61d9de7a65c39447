-- Each place adds the nearest symbol to its target.
use Rattle.std.proofs.Common.{◌<◌, ◌+◌, arith, sym, append-nil}
use Rattle.beam_encoder.proofs.NearLaws.{near_none, near_more, near_symbol-more, near_sum-small}
use Rattle.beam_encoder.proofs.spell.push_block.Goals as goal

pub loop-pos-init : goal.loop-pos-init
loop-pos-init g c = record { near = near_none _ _ _ _; fits = c.requires.from; symbols = sym (append-nil _) }

pub overflow_add-sum : goal.overflow_add-sum
overflow_add-sum g c =
    let r = g.M.Machine.rules c.args.machine.now in
    let laws = g.met.M.Machine.lawful c.args.machine.now in
    let within : c.loop-pos.pos < r.decoder.samples = (let e = c.block_samples-pos-end.ensures in omega arith) in
    let taken = c.near-taken.ensures in
    let more = near_more r.decoder c.args.head c.args.block.now c.args.from c.loop-pos.pos _ _ _ _ _ c.requires.block within c.loop-pos.invariant.near taken.symbol taken.state taken.cost in
    let small = near_sum-small r laws c.args.head c.args.block.now c.args.from (c.loop-pos.pos + 1) c.requires.head (omega arith) c.requires.block c.requires.from in
    let sum = more.sum in omega arith

pub loop-pos-preserved : goal.loop-pos-preserved
loop-pos-preserved g c =
    let r = g.M.Machine.rules c.args.machine.now in
    let within : c.loop-pos.pos < r.decoder.samples = (let e = c.block_samples-pos-end.ensures in omega arith) in
    let taken = c.near-taken.ensures in
    record {
      near = near_more r.decoder c.args.head c.args.block.now c.args.from c.loop-pos.pos _ _ _ _ _ c.requires.block within c.loop-pos.invariant.near taken.symbol taken.state taken.cost;
      fits = taken.fits;
      symbols = near_symbol-more r.decoder c.args.head c.args.block.now c.args.from c.loop-pos.pos _ _ _ _ _ _ c.requires.block within c.loop-pos.invariant.near taken.symbol c.loop-pos.invariant.symbols c.in_ok-push.ensures.ok;
    }
