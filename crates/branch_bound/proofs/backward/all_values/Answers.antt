use Rattle.std.proofs.Common.{arith, ap, sym, ◌∙◌, ◌<◌, ◌*◌, ◌++◌, ◌∷◌, [], subst, List}
use Rattle.open_cells.specs.declared.node.Node.{Node}
use Rattle.open_cells.specs.Nodes.{IsRising}
use Rattle.open_cells.specs.Reach.{IsFront}
use Rattle.branch_bound.proofs.Values.{prior-last, prior-rising, backed-more, values-all}
use Rattle.branch_bound.proofs.backward.all_values.Goals as goal

pub value_layer-requires-clause-front : goal.value_layer-requires-clause-front
value_layer-requires-clause-front g c =
    let m = g.M.Machine.rules c.args.machine.now in
    let s = ap (λ z. c.args.blocks * z) c.block_samples.ensures in let t = c.loop-k-test.true in let i = c.spot_at-at.ensures.index in
    let lt : c.spot_at-at.result.index < c.args.blocks * m.decoder.samples = omega arith in
    subst (λ (z : List Node). IsFront m c.args.targets.now c.args.blocks c.args.level c.args.most c.spot_at-at.result.index z) (sym (c.as_slice.ensures.value ∙ c.in-Ok.ensures)) (c.requires.fronts c.spot_at-at.result.index lt)

pub value_layer-requires-clause-rising : goal.value_layer-requires-clause-rising
value_layer-requires-clause-rising g c =
    let m = g.M.Machine.rules c.args.machine.now in
    subst (λ (z : List Node). IsRising z) (sym (c.as_slice-in-loop-k.ensures.value ∙ c.loop-k.invariant.next))
    (prior-rising m c.args.targets.now c.args.blocks c.args.level c.args.most c.args.fronts.now c.loop-k.values (c.args.blocks * m.decoder.samples) c.loop-k.k c.loop-k.k c.loop-k.invariant.backed (omega arith))

pub loop-k-preserved : goal.loop-k-preserved
loop-k-preserved g c =
    let m = g.M.Machine.rules c.args.machine.now in
    let s = ap (λ z. c.args.blocks * z) c.block_samples.ensures in let t = c.loop-k-test.true in let i = c.spot_at-at.ensures.index in
    let lt : c.spot_at-at.result.index < c.args.blocks * m.decoder.samples = omega arith in
    let e = c.as_slice.ensures.value ∙ c.in-Ok.ensures in
    let n = c.as_slice-in-loop-k.ensures.value ∙ c.loop-k.invariant.next in
    let f = c.requires.fronts c.spot_at-at.result.index lt in
    let new = c.in-Ok-push.ensures.ok ∙ ap (λ (z : List Node). c.loop-k.values ++ z ∷ []) c.as_slice-in-loop-k-2.ensures.value in
    record {
      backed = backed-more m c.args.targets.now c.args.blocks c.args.level c.args.most c.args.fronts.now c.loop-k.values c.push.new.self c.in-Ok-value_layer.v.items (c.args.blocks * m.decoder.samples) c.loop-k.k c.spot_at-at.result.index
          c.as_slice-in-loop-k.result.now c.as_slice.result.now c.loop-k.invariant.backed new (omega arith) n e (subst (λ (z : List Node). IsRising z) (sym e) f.rising) c.in-Ok-value_layer.ensures.values;
      next = prior-last c.loop-k.values c.push.new.self c.in-Ok-value_layer.v.items c.loop-k.k c.loop-k.invariant.backed.size new;
      rows = c.ready_for.ensures.rows;
      held = λ h. c.ready_for.ensures.held;
    }

pub returns-clause-values : goal.returns-clause-values
returns-clause-values g c =
    let m = g.M.Machine.rules c.args.machine.now in
    let s = ap (λ z. c.args.blocks * z) c.block_samples.ensures in let t = c.loop-k-test.false in let u = c.loop-k.auto.k-end in
    values-all m c.args.targets.now c.args.blocks c.args.level c.args.most c.args.fronts.now c.loop-k.values c.turn.new.self c.loop-k.k c.loop-k.invariant.backed (omega arith) c.turn.ensures
