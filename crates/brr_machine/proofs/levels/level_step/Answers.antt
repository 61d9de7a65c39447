use Rattle.std.proofs.Common.{arith, ◌-◌}
use Rattle.std.proofs.lemmas.Int.{ints}
use Rattle.brr_machine.specs.Laws.Samples.{power}
use Rattle.brr_machine.proofs.levels.level_step.Goals as goal

pub returns-clause-high : goal.returns-clause-high
returns-clause-high c =
    let few = c.requires.few in let small = power (c.args.shift - 1) (omega arith) in omega (arith, ints)
