use Rattle.machine_core.proofs.CellLaws.{holds, exact-box, between, cell-is}
use Rattle.machine_core.proofs.laws.states_have_cells.Goals as goal

pub returns-clause-held : goal.returns-clause-held
returns-clause-held c = λ g level at is_level. holds g level at is_level

pub returns-clause-exact : goal.returns-clause-exact
returns-clause-exact c = λ g at. exact-box g at

pub returns-clause-between : goal.returns-clause-between
returns-clause-between c = λ g level bx at is_level inside. between g level bx at is_level inside

pub returns-clause-is_cell : goal.returns-clause-is_cell
returns-clause-is_cell c = λ r level at laws is_level is_state. cell-is r level at laws is_level is_state
