use Rattle.bank_kinds.proofs.FittedLaws.{fit_of-ready}
use Rattle.bank_kinds.proofs.laws.fit_is_ready.Goals as goal

pub returns : goal.returns
returns c = fit_of-ready
