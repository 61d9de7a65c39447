use Rattle.std.proofs.Common.{◌∙◌, ap}
use Rattle.machine_core.specs.Boxes.{low_corner, high_corner}
use Rattle.machine_core.specs.Cells.{cell_of}
use Rattle.machine_core.specs.Rules.{grid}
use Rattle.box_layers.proofs.Looks.{low-inside}
use Rattle.box_layers.proofs.Seeing.{cornered}
use Rattle.box_layers.proofs.looking.see_box.Goals as goal

pub see_cells-requires-clause-corners : goal.see_cells-requires-clause-corners
see_cells-requires-clause-corners g c =
    let r = g.M.Machine.rules c.args.machine.now in
    let bx = c.args.bx in
    let low = low_corner bx in
    let high = high_corner bx in
    let inside = low-inside bx in
    let between = c.states_have_cells.ensures.between (grid r) c.args.level bx low c.requires.level inside in
    let is_cell = c.states_have_cells.ensures.is_cell r c.args.level high (g.met.M.Machine.lawful c.args.machine.now) c.requires.level c.requires.high in
    let small = c.boxes_meet_cells.ensures.small r c.args.level (cell_of (grid r) c.args.level high) (g.met.M.Machine.boxed c.args.machine.now) c.requires.level is_cell in
    cornered (cell_of (grid r) c.args.level low) (cell_of (grid r) c.args.level high) _ _ (c.cell_of-low.ensures ∙ ap (cell_of (grid r) c.args.level) c.least_state.ensures) (c.cell_of-high.ensures ∙ ap (cell_of (grid r) c.args.level) c.greatest_state.ensures) between.a_high between.b_high small.0
