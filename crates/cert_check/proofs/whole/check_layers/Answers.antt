use Rattle.std.proofs.Common.{sym, ◌∙◌, ap, subst, arith}
use Rattle.std.specs.Prelude.{Option}
use Rattle.box_layers.specs.declared.key.Key.{Key}
use Rattle.bound_cert.specs.Content.{Here}
use Rattle.machine_core.specs.Floors.{block_targets}
use Rattle.cert_check.specs.Layers.{from_here}
use Rattle.block_steps.specs.Tables.{HoldRows}
use Rattle.cert_check.proofs.LayerByLayer.{layers-more-at, first-fault-at, layer-fits, next-rest, none-left}
use Rattle.cert_check.proofs.whole.check_layers.Goals as goal

pub check_layer-requires-clause-here : goal.check_layer-requires-clause-here
check_layer-requires-clause-here g c =
    let d = ap (λ (z : Option Here). from_here z) (sym c.in-Some.is) ∙ c.loop-j.invariant.rest in
    layer-fits (g.M.Machine.rules c.args.machine.now) c.args.segment.now.level c.args.segment.now.blocks c.level-level.result c.blocks-blocks.result c.args.segment.now.layers c.loop-j.j c.in-Some.here
    c.requires.layers c.level-level.ensures c.blocks-blocks.ensures.value d

pub loop-j-preserved : goal.loop-j-preserved
loop-j-preserved g c =
    let m = g.M.Machine.rules c.args.machine.now in
    let d = ap (λ (z : Option Here). from_here z) (sym c.in-Some.is) ∙ c.loop-j.invariant.rest in
    record {
      rest = next-rest c.args.segment.now.layers c.loop-j.j c.in-Some.here c.next-next.result d c.next-next.ensures;
      rows = c.in-Ok.ensures.rows.count;
      filled = λ _. (subst (λ (k : Key). HoldRows m (block_targets m c.args.targets.now k.block) c.check_layer.new.rows) (sym c.key-filled.ensures) c.in-Ok.ensures.rows);
      hold = layers-more-at m (g.met.M.Machine.lawful c.args.machine.now) c.args.targets.now c.args.segment.now.level c.args.segment.now.blocks c.level-level.result c.blocks-blocks.result c.args.segment.now.layers c.loop-j.j c.in-Some.here
          c.sorted.ensures c.requires.layers c.level-level.ensures c.blocks-blocks.ensures.value d c.loop-j.invariant.hold c.in-Ok.ensures.ok;
    }

pub returns-in-Err-clause-err : goal.returns-in-Err-clause-err
returns-in-Err-clause-err g c =
    let m = g.M.Machine.rules c.args.machine.now in
    let d = ap (λ (z : Option Here). from_here z) (sym c.in-Some.is) ∙ c.loop-j.invariant.rest in
    first-fault-at m (g.met.M.Machine.lawful c.args.machine.now) c.args.targets.now c.args.segment.now.level c.args.segment.now.blocks c.level-level.result c.blocks-blocks.result c.args.segment.now.layers c.loop-j.j c.in-Some.here c.in-Err.e
    c.sorted.ensures c.requires.layers c.level-level.ensures c.blocks-blocks.ensures.value d c.loop-j.invariant.hold c.in-Err.ensures.err

pub returns-in-None-clause-ok : goal.returns-in-None-clause-ok
returns-in-None-clause-ok g c =
    let d = ap (λ (z : Option Here). from_here z) (sym c.in-None.is) ∙ c.loop-j.invariant.rest in
    absurd (none-left c.args.segment.now.layers c.loop-j.j (omega arith) d)
