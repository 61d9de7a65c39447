use Rattle.loop_fit.proofs.FitLaws.{fit_of-goes_round, fit_of-targets, fit_of-whole}
use Rattle.loop_fit.proofs.laws.fit_keeps.Goals as goal

pub returns-clause-round : goal.returns-clause-round
returns-clause-round c = fit_of-goes_round

pub returns-clause-whole : goal.returns-clause-whole
returns-clause-whole c = fit_of-whole

pub returns-clause-targets : goal.returns-clause-targets
returns-clause-targets c = fit_of-targets
