use Rattle.window_floor.proofs.Truth.{pair-cost}
use Rattle.window_floor.proofs.theorem.no_pair_is_cheaper.Goals as goal

pub returns : goal.returns
returns c = pair-cost
