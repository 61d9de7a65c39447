use Rattle.std.proofs.Common.{refl, sym, subst, List, ℕ}
use Rattle.machine_core.specs.declared.boxes.Cell.{Cell}
use Rattle.box_layers.specs.Cells.{IsAscending}
use Rattle.box_layers.specs.Pairs.{paired}
use Rattle.open_cells.specs.Rows.{cells_of}
use Rattle.open_cells.proofs.Laying.{nodes-now, run-ascends}
use Rattle.open_cells.proofs.runs.put_run.Goals as goal

pub put_layer-requires-clause-ascends : goal.put_layer-requires-clause-ascends
put_layer-requires-clause-ascends c =
    let values = c.fill.new.values.items in
    subst (λ (z : List Cell). IsAscending (paired z values)) (sym c.in-Ok.ensures.cells)
    (subst (λ (z : List ℕ). IsAscending (paired (cells_of c.args.run.now) z)) (sym c.in-Ok.ensures.values) (run-ascends c.args.run.now c.requires.run))

pub returns-clause-nodes : goal.returns-clause-nodes
returns-clause-nodes c =
    nodes-now c.put_layer.result c.args.layers.now c.put_layer.new.layers _ c.fill.new.cells.items c.fill.new.values.items c.args.run.now _ c.put_layer.ensures.ok c.requires.run
    refl c.in-Ok.ensures.cells c.in-Ok.ensures.values
