use Rattle.std.proofs.Common.{ℕ, ◌<◌, IsTrue, sym, subst, length}
use Rattle.machine_core.specs.declared.state.State.{State}
use Rattle.machine_core.proofs.Places.{block-below}
use Rattle.machine_core.proofs.States.{step-fits}
use Rattle.player_model.specs.Stored.{blocks_in}
use Rattle.bank_check.proofs.Heard.{IsRead, room, block-of, read-head, read-step}
use Rattle.bank_check.proofs.hearing.step_in.Goals as goal

pub head_at-head-requires-clause-within : goal.head_at-head-requires-clause-within
head_at-head-requires-clause-within g c =
    let d = (g.C.Machine.rules c.args.codec.now).decoder in
    let f = g.C.Stored.format c.args.codec.now in
    room c.args.start f.size c.args.blocks _ (length c.args.memory.now) c.block_size.result (block-of c.args.i c.block_samples-samples.result d.samples c.args.blocks c.block_samples-samples.ensures c.requires.i) c.requires.within c.block_size.ensures

pub symbol_at-symbol-requires-clause-within : goal.symbol_at-symbol-requires-clause-within
symbol_at-symbol-requires-clause-within g c =
    let d = (g.C.Machine.rules c.args.codec.now).decoder in
    let f = g.C.Stored.format c.args.codec.now in
    room c.args.start f.size c.args.blocks _ (length c.args.memory.now) c.block_size.result (block-of c.args.i c.block_samples-samples.result d.samples c.args.blocks c.block_samples-samples.ensures c.requires.i) c.requires.within c.block_size.ensures

pub step-requires-clause-head : goal.step-requires-clause-head
step-requires-clause-head g c =
    let d = (g.C.Machine.rules c.args.codec.now).decoder in
    let f = g.C.Stored.format c.args.codec.now in
    let read : IsRead d f c.args.memory.now c.args.start c.args.blocks c.args.i c.block_size.result c.block_samples-samples.result c.head_at-head.result c.symbol_at-symbol.result =
    record { within = c.requires.i; size_is = c.block_size.ensures; samples_are = c.block_samples-samples.ensures; head_is = c.head_at-head.ensures; symbol_is = c.symbol_at-symbol.ensures } in
    subst (λ (z : ℕ). z < d.heads) (sym (read-head d f c.args.memory.now c.args.start c.args.blocks c.args.i c.block_size.result c.block_samples-samples.result c.head_at-head.result c.symbol_at-symbol.result read))
    (c.requires.in_range.heads_fit _ (block-below c.args.i d.samples c.args.blocks c.requires.i))

pub returns-clause-value : goal.returns-clause-value
returns-clause-value g c =
    let d = (g.C.Machine.rules c.args.codec.now).decoder in
    let f = g.C.Stored.format c.args.codec.now in
    let read : IsRead d f c.args.memory.now c.args.start c.args.blocks c.args.i c.block_size.result c.block_samples-samples.result c.head_at-head.result c.symbol_at-symbol.result =
    record { within = c.requires.i; size_is = c.block_size.ensures; samples_are = c.block_samples-samples.ensures; head_is = c.head_at-head.ensures; symbol_is = c.symbol_at-symbol.ensures } in
    read-step d f c.args.memory.now c.args.start c.args.blocks c.args.i c.block_size.result c.block_samples-samples.result c.head_at-head.result c.symbol_at-symbol.result c.args.from c.step.result read c.step.ensures

pub returns-clause-fits : goal.returns-clause-fits
returns-clause-fits g c =
    let r = g.C.Machine.rules c.args.codec.now in
    let d = r.decoder in
    let f = g.C.Stored.format c.args.codec.now in
    let read : IsRead d f c.args.memory.now c.args.start c.args.blocks c.args.i c.block_size.result c.block_samples-samples.result c.head_at-head.result c.symbol_at-symbol.result =
    record { within = c.requires.i; size_is = c.block_size.ensures; samples_are = c.block_samples-samples.ensures; head_is = c.head_at-head.ensures; symbol_is = c.symbol_at-symbol.ensures } in
    let is = read-step d f c.args.memory.now c.args.start c.args.blocks c.args.i c.block_size.result c.block_samples-samples.result c.head_at-head.result c.symbol_at-symbol.result c.args.from c.step.result read c.step.ensures in
    subst (λ (z : State). IsTrue (d.is_state z)) (sym is)
    (step-fits r (g.met.C.Machine.lawful c.args.codec.now) c.args.blocks (blocks_in d f c.args.memory.now c.args.start c.args.blocks) c.requires.in_range c.args.i c.args.from c.requires.i c.requires.from)
