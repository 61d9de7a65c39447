use Rattle.spu_machine.specs.Laws.Ranges.{step-fits, cost-small}
use Rattle.spu_machine.proofs.laws.states_and_costs_fit.Goals as goal

pub returns-clause-steps : goal.returns-clause-steps
returns-clause-steps c = step-fits

pub returns-clause-costs : goal.returns-clause-costs
returns-clause-costs c = cost-small
