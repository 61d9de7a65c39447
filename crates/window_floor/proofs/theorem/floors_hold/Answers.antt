use Rattle.window_floor.proofs.WindowLaws.{floor-below}
use Rattle.window_floor.proofs.theorem.floors_hold.Goals as goal

pub returns : goal.returns
returns c = floor-below
