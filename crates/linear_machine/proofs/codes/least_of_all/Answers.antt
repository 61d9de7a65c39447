use Rattle.std.proofs.Common.{arith}
use Rattle.adpcm_nums.proofs.LeastLaws.{is_first_least_at}
use Rattle.linear_machine.proofs.codes.least_of_all.Goals as goal

pub returns-clause-value : goal.returns-clause-value
returns-clause-value g c = is_first_least_at _ c.loop-code.code 16 c.loop-code.best c.loop-code.invariant.found (omega arith)
