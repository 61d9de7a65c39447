use Rattle.machine_core.specs.Blocks.{first_only}
use Rattle.machine_core.specs.Rules.{grid}
use Rattle.box_layers.proofs.Sound.{value-below}
use Rattle.box_layers.proofs.laws.accepted_values_hold.Goals as goal

pub returns : goal.returns
returns c = λ r targets cert list laws boxed level legal count range accepted.
    value-below r targets cert list
    (record {
      laws = laws;
      boxed = boxed;
      level = level;
      legal = legal;
      count = count;
      range = range;
      accepted = accepted;
      held = λ at. c.states_have_cells.ensures.held (grid r) cert.level at level;
      are_cells = λ at is. c.states_have_cells.ensures.is_cell r cert.level at laws level is;
      between = λ bx at inside. c.states_have_cells.ensures.between (grid r) cert.level bx at level inside;
      rests = λ i lane bx at below box is inside takes. c.rests_hold.ensures r first_only cert.blocks targets list i lane bx at laws legal count range below box is inside takes;
    })
    (c.floors_hold.ensures r first_only cert.blocks targets list laws legal count range)
