use Rattle.std.proofs.Common.{sym, ap, ◌∙◌, subst}
use Rattle.machine_core.specs.declared.boxes.Cell.{Cell}
use Rattle.machine_core.specs.Boxes.{high_corner, low_corner}
use Rattle.machine_core.specs.Cells.{cell_of}
use Rattle.machine_core.specs.Rules.{grid}
use Rattle.box_layers.specs.Looking.{IsCornered, least_listed}
use Rattle.open_cells.specs.Nodes.{listed_in}
use Rattle.block_steps.proofs.Looks.{look-is}
use Rattle.block_steps.proofs.Steps.{place-fits}
use Rattle.branch_bound.proofs.NextLane.{box-ordered}
use Rattle.branch_bound.proofs.next_layer.NextLaneLaneCells.look.Goals as goal

pub returns : goal.returns
returns g c =
    let m = g.M.Machine.rules c.args.machine.now in
    let p = c.args.plan.now in
    let s = c.args.self.now in
    let listed = listed_in s.nodes.now s.lane in
    c.least_of_box.ensures
    ∙ (ap (λ (z : Cell). least_listed z c.high_cell-high.result listed c.rest_at-unlisted.result) c.low_cell-low.ensures
    ∙ (ap (λ (z : Cell). least_listed (cell_of (grid m) p.level (low_corner c.args.bx)) z listed c.rest_at-unlisted.result) c.high_cell-high.ensures
    ∙ look-is m p.targets.now p.level p.blocks c.args.at.index c.args.lane c.args.bx listed c.rest_at-unlisted.result c.rest_at-unlisted.ensures))

pub least_of_box-requires-clause-corners : goal.least_of_box-requires-clause-corners
least_of_box-requires-clause-corners g c =
    let m = g.M.Machine.rules c.args.machine.now in
    let p = c.args.plan.now in
    let laws = g.met.M.Machine.lawful c.args.machine.now in
    let b = box-ordered m laws (g.met.M.Machine.boxed c.args.machine.now) c.requires.plan.corners p.level c.args.at.place c.args.bx c.requires.plan.level (place-fits m laws c.args.at c.requires.at.spot) c.requires.bx in
    subst (λ (z : Cell). IsCornered c.low_cell-low.result z) (sym c.high_cell-high.ensures) (subst (λ (z : Cell). IsCornered z (cell_of (grid m) p.level (high_corner c.args.bx))) (sym c.low_cell-low.ensures) b)
