use Rattle.row_bound.proofs.DualLemma.{dual-below}
use Rattle.row_bound.proofs.laws.dual_lemma.Goals as goal

pub returns : goal.returns
returns c = dual-below
