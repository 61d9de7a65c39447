use Rattle.std.proofs.Common.{◌∙◌, ap, arith, ◌≡◌, ◌-◌, min, length}
use Rattle.machine_core.specs.Blocks.{first_only}
use Rattle.machine_core.specs.Floors.{floors_from, top}
use Rattle.cert_check.proofs.Exact.{Targets, no-layers, with-layers}
use Rattle.cert_check.proofs.whole.check_parts.Goals as goal

pub returns-then-layer_count-eq0-clause-value : goal.returns-then-layer_count-eq0-clause-value
returns-then-layer_count-eq0-clause-value g c =
    let m = g.M.Machine.rules c.args.machine.now in
    let s = c.args.segment.now in
    let v = c.blocks-2.ensures.value in
    let w = c.blocks-2.ensures.small in
    let e : c.blocks-2.result - 0 ≡ s.blocks = omega arith in
    let small : Targets m s.blocks c.args.targets.now = record { count = c.requires.count; few = c.requires.few; range = c.requires.range } in
    let none : length s.layers ≡ 0 = (let l = c.layer_count.ensures in omega arith) in
    no-layers m (g.met.M.Machine.lawful c.args.machine.now) c.args.targets.now s.layers s.level s.blocks _ small none
    (c.fill_later.ensures.each 0 (omega arith) ∙ ap (λ z. min top (floors_from m first_only c.args.targets.now 0 z)) e)

pub returns-in-Ok-clause-value : goal.returns-in-Ok-clause-value
returns-in-Ok-clause-value g c =
    let m = g.M.Machine.rules c.args.machine.now in
    let s = c.args.segment.now in
    let v = c.blocks-2.ensures.value in
    let w = c.blocks-2.ensures.small in
    let e : c.blocks-2.result - 0 ≡ s.blocks = omega arith in
    let small : Targets m s.blocks c.args.targets.now = record { count = c.requires.count; few = c.requires.few; range = c.requires.range } in
    with-layers m (g.met.M.Machine.lawful c.args.machine.now) c.args.targets.now s.layers s.level c.level.result s.blocks c.greater.result _ c.listed_for-listed.result c.cell_of-start.result small c.level.ensures c.cell_of-start.ensures
    (c.fill_later.ensures.each 0 (omega arith) ∙ ap (λ z. min top (floors_from m first_only c.args.targets.now 0 z)) e) c.listed_for-listed.ensures c.greater.ensures
