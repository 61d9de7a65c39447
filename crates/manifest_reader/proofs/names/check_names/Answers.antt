use Rattle.manifest_reader.proofs.Once.{stores_once}
use Rattle.manifest_reader.proofs.names.check_names.Goals as goal

pub returns-clause-once : goal.returns-clause-once
returns-clause-once c = stores_once _ _ _ c.requires c.in_ok-check_same.ensures.distinct
