use Rattle.row_bound.proofs.Direction.{bound-out}
use Rattle.row_bound.proofs.laws.direction_lemma.Goals as goal

pub returns : goal.returns
returns c = bound-out
