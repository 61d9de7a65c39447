use Rattle.row_bound.proofs.Clamped.{high-fits, low-fits}
use Rattle.row_bound.proofs.laws.clamp_lemma.Goals as goal

pub returns-clause-high : goal.returns-clause-high
returns-clause-high c = high-fits

pub returns-clause-low : goal.returns-clause-low
returns-clause-low c = low-fits
