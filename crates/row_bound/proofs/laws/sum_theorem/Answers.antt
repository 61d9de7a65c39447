use Rattle.row_bound.proofs.SumTheorem.{sum-below}
use Rattle.row_bound.proofs.laws.sum_theorem.Goals as goal

pub returns : goal.returns
returns c = sum-below
