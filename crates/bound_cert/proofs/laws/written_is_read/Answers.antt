use Rattle.bound_cert.proofs.Again.{read-back}
use Rattle.bound_cert.proofs.laws.written_is_read.Goals as goal

pub returns : goal.returns
returns c = read-back
