use Rattle.linear_machine.proofs.Outputs.{output-follows, output-stays}
use Rattle.linear_machine.proofs.laws.outputs_follow.Goals as goal

pub returns-clause-outcome : goal.returns-clause-outcome
returns-clause-outcome c = λ l list from i is within. output-follows l is list from i within

pub returns-clause-older : goal.returns-clause-older
returns-clause-older c = λ l list from i is. output-stays l is list from i
