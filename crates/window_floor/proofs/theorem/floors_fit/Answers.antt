use Rattle.window_floor.proofs.WindowSizes.{floor-fits}
use Rattle.window_floor.proofs.theorem.floors_fit.Goals as goal

pub returns : goal.returns
returns c = floor-fits
