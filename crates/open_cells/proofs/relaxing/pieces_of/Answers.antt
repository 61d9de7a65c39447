use Rattle.std.proofs.Common.{sym, subst, IsTrue}
use Rattle.machine_core.specs.declared.boxes.Bx.{Bx}
use Rattle.block_steps.proofs.Steps.{place-fits}
use Rattle.open_cells.proofs.relaxing.pieces_of.Goals as goal

pub box_step-requires-clause-from : goal.box_step-requires-clause-from
box_step-requires-clause-from g c =
    let m = g.M.Machine.rules c.args.machine.now in
    let place = place-fits m (g.met.M.Machine.lawful c.args.machine.now) c.args.at c.requires.at in
    let box = (g.met.M.Machine.boxed c.args.machine.now).cells_fit c.args.s.now.level c.args.at.place c.args.cell c.requires.search.level place c.requires.cell in
    subst (λ (z : Bx). IsTrue (m.is_box c.args.at.place z)) (sym c.cell_box-bx.ensures) box
