use Rattle.machine_core.proofs.States.{states}
use Rattle.machine_core.proofs.laws.states_fit.Goals as goal

pub returns : goal.returns
returns c = λ r blocks list from i laws fits is_state within. states r laws blocks list fits from is_state i within
