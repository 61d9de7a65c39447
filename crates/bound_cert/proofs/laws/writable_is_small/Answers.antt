use Rattle.bound_cert.proofs.Writable.{segments-small}
use Rattle.bound_cert.proofs.laws.writable_is_small.Goals as goal

pub returns : goal.returns
returns c = segments-small
