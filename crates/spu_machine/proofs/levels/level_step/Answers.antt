use Rattle.std.proofs.Common.{arith}
use Rattle.std.proofs.lemmas.Int.{ints}
use Rattle.spu_machine.proofs.LevelLaws.{step-small}
use Rattle.spu_machine.proofs.levels.level_step.Goals as goal

pub returns-clause-high : goal.returns-clause-high
returns-clause-high c = let small = step-small c.args.shift in omega (arith, ints)
