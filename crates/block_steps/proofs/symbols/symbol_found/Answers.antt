use Rattle.std.proofs.Common.{◌∙◌, ap, sym, subst, IsTrue, w32, to_z, of_z, rules}
use Rattle.machine_core.specs.Rules.{grid}
use Rattle.machine_core.specs.Cells.{cell_box}
use Rattle.std.proofs.lemmas.Int.{to_z-of_z}
use mir.Val.{SFits}
use Rattle.machine_core.specs.declared.boxes.Bx.{Bx}
use Rattle.block_steps.proofs.Steps.{boxes-of, place-fits}
use Rattle.block_steps.proofs.symbols.symbol_found.Goals as goal

pub least_way-requires-clause-pieces : goal.least_way-requires-clause-pieces
least_way-requires-clause-pieces g c =
    let m = g.M.Machine.rules c.args.machine.now in
    let t = c.target_at-target.result in
    let fits : SFits w32 t = search rules in
    let tz = to_z-of_z w32 t fits ∙ c.target_at-target.ensures.value in
    boxes-of m (g.met.M.Machine.lawful c.args.machine.now) (g.met.M.Machine.boxed c.args.machine.now) c.args.plan.now c.args.at c.args.cell c.args.head c.args.sym c.as_slice.result.now c.requires.from c.requires.head c.requires.sym
    (c.as_slice.ensures.value ∙ (c.pieces.view_is ∙ (c.box_step-pieces.ensures
    ∙ (ap (λ (z : Bx). m.image c.args.head c.args.at.place c.args.sym z (to_z w32 (of_z w32 t))) c.cell_box-bx.ensures
    ∙ ap (m.image c.args.head c.args.at.place c.args.sym (cell_box (grid m) c.args.plan.now.level c.args.cell)) tz))))

pub box_step-pieces-requires-clause-place : goal.box_step-pieces-requires-clause-place
box_step-pieces-requires-clause-place g c = place-fits (g.M.Machine.rules c.args.machine.now) (g.met.M.Machine.lawful c.args.machine.now) c.args.at c.requires.from.current.spot

pub box_step-pieces-requires-clause-from : goal.box_step-pieces-requires-clause-from
box_step-pieces-requires-clause-from g c =
    let m = g.M.Machine.rules c.args.machine.now in
    let place = place-fits m (g.met.M.Machine.lawful c.args.machine.now) c.args.at c.requires.from.current.spot in
    let box = (g.met.M.Machine.boxed c.args.machine.now).cells_fit c.args.plan.now.level c.args.at.place c.args.cell c.requires.from.plan.level place c.requires.from.cell_fits in
    subst (λ (z : Bx). IsTrue (m.is_box c.args.at.place z)) (sym c.cell_box-bx.ensures) box
