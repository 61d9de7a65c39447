use Rattle.block_bounds.proofs.Coverage.{outputs-path}
use Rattle.block_bounds.proofs.laws.outputs_are_paths.Goals as goal

pub returns : goal.returns
returns c = outputs-path
