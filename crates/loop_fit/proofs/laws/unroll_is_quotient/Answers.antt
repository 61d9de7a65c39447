use Rattle.loop_fit.proofs.Quotients.{unroll_of-quotient}
use Rattle.loop_fit.proofs.laws.unroll_is_quotient.Goals as goal

pub returns : goal.returns
returns c = unroll_of-quotient
