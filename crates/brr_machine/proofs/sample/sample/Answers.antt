use Rattle.std.proofs.Common.{arith}
use Rattle.std.proofs.lemmas.Int.{ints}
use Rattle.brr_machine.specs.Laws.Samples.{sample_low}
use Rattle.brr_machine.proofs.sample.sample.Goals as goal

pub returns-clause-low : goal.returns-clause-low
returns-clause-low c = let l = sample_low c.args.shift c.args.code c.requires.code in omega (arith, ints, l, c.shifted.ensures)
