use Rattle.loop_fit.proofs.AlignLaws.{next_multiple-whole}
use Rattle.loop_fit.proofs.laws.loop_target_is_least.Goals as goal

pub returns-clause-whole : goal.returns-clause-whole
returns-clause-whole c = λ block at some. next_multiple-whole at.start block some
