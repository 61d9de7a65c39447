use Rattle.ima_machine.proofs.StepSizes.{steps_rise}
use Rattle.ima_machine.proofs.laws.step_sizes_rise.Goals as goal

pub returns : goal.returns
returns c = steps_rise
