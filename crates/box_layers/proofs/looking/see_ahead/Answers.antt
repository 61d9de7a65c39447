use Rattle.std.proofs.Common.{sym, ◌∙◌, ap}
use Rattle.box_layers.specs.Cells.{value_of}
use Rattle.box_layers.specs.Looking.{look_over}
use Rattle.box_layers.specs.Pairs.{cells_in}
use Rattle.box_layers.proofs.Seeing.{none-listed}
use Rattle.box_layers.proofs.looking.see_ahead.Goals as goal

pub returns-in-None : goal.returns-in-None
returns-in-None g c = λ r q.
    (let m = g.M.Machine.rules c.args.machine.now in
    none-listed m c.args.level r c.args.bx q ∙ ap (λ o. look_over m c.args.level (value_of (cells_in g.L.CellList.listed o)) r c.args.bx) (sym c.in-None.is))
