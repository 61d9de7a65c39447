use Rattle.machine_core.specs.Boxes.{low_corner, high_corner}
use Rattle.machine_core.specs.Cells.{cell_of}
use Rattle.machine_core.specs.Rules.{grid}
use Rattle.box_layers.proofs.Looks.{low-inside, look-reached}
use Rattle.box_layers.proofs.Sound.{look-below}
use Rattle.box_layers.proofs.laws.looks_are_least.Goals as goal

pub returns-clause-below : goal.returns-clause-below
returns-clause-below c = look-below

pub returns-clause-reached : goal.returns-clause-reached
returns-clause-reached c = λ r level listed unlisted bx is_level.
    (let order = c.states_have_cells.ensures.between (grid r) level bx (low_corner bx) is_level (low-inside bx) in
    look-reached (cell_of (grid r) level (low_corner bx)) (cell_of (grid r) level (high_corner bx)) listed unlisted order.a_high order.b_high)
