use Rattle.std.proofs.Common.{arith}
use Rattle.ima_machine.proofs.StepSizes.{table_at, step_large, step_small}
use Rattle.ima_machine.proofs.steps.step_size.Goals as goal

pub returns-clause-large : goal.returns-clause-large
returns-clause-large c = omega (arith, table_at c.args.index, step_large c.args.index c.requires)

pub returns-clause-small : goal.returns-clause-small
returns-clause-small c = omega (arith, table_at c.args.index, step_small c.args.index)
