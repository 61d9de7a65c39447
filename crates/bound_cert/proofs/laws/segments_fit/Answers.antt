use Rattle.bound_cert.proofs.Segments.{segment-fits, blocks-are, as-many}
use Rattle.bound_cert.proofs.laws.segments_fit.Goals as goal

pub returns-clause-fits : goal.returns-clause-fits
returns-clause-fits c = segment-fits

pub returns-clause-blocks : goal.returns-clause-blocks
returns-clause-blocks c = blocks-are

pub returns-clause-count : goal.returns-clause-count
returns-clause-count c = as-many
