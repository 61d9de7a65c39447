use Rattle.brr_machine.specs.Laws.Linear.{brr-floor-below}
use Rattle.brr_machine.proofs.floors.floors_hold.Goals as goal

pub returns : goal.returns
returns c = brr-floor-below
