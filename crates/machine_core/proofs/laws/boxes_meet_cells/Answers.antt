use Rattle.machine_core.proofs.CellLaws.{met, cell-small}
use Rattle.machine_core.proofs.laws.boxes_meet_cells.Goals as goal

pub returns-clause-met : goal.returns-clause-met
returns-clause-met c = λ r level p bx cell laws is_level within is_box stands. met r level p bx cell laws is_level within is_box stands

pub returns-clause-small : goal.returns-clause-small
returns-clause-small c = λ r level cell laws is_level is_cell. cell-small r level cell laws is_cell
