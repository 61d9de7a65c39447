use Rattle.block_bounds.proofs.ListSums.{list-below}
use Rattle.block_bounds.proofs.laws.bounds_of_blocks.Goals as goal

pub returns : goal.returns
returns c = list-below
