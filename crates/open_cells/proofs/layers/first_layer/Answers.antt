use Rattle.std.proofs.Common.{◌≤◌, arith, ap, ◌∙◌, List, [], ◌∷◌, ◌++◌}
use Rattle.machine_core.specs.Floors.{top}
use Rattle.open_cells.specs.declared.node.Node.{Node}
use Rattle.open_cells.proofs.Built.{front-none, front-one}
use Rattle.open_cells.proofs.layers.first_layer.Goals as goal
use Rattle.open_cells.proofs.layers.first_layer.Goals.{then-later-most+in-Ok, else-later-most}

pub returns : goal.returns
returns g c =
    let m = g.M.Machine.rules c.args.machine.now in
    let laws = g.met.M.Machine.lawful c.args.machine.now in
    let small : c.args.most ≤ top = omega arith in
    elim c.if-later-most.branch [
      | then-later-most+in-Ok w ↦ record {
        front = front-one m laws c.args.targets.now c.args.blocks c.args.level c.args.most c.args.later.now c.if-later-most.layer.items w.cell_of.result c.requires.later w.if-later-most.true small w.cell_of.ensures
            (ap (λ z. z.items) w.layer-is ∙ (w.in-Ok.ensures.items ∙ ap (λ (z : List Node). z ++ record { lane = 65535; cell = w.cell_of.result; cost = 0 } ∷ []) c.new-layer.ensures.items));
      }
      | else-later-most w ↦ record {
        front = front-none m laws c.args.targets.now c.args.blocks c.args.level c.args.most c.args.later.now c.if-later-most.layer.items c.requires.later w.if-later-most.false
            (ap (λ z. z.items) w.layer-is ∙ c.new-layer.ensures.items);
      }
    ]
