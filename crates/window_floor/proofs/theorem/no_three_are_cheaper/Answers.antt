use Rattle.window_floor.proofs.Truth.{three-cost}
use Rattle.window_floor.proofs.theorem.no_three_are_cheaper.Goals as goal

pub returns : goal.returns
returns c = three-cost
