use Rattle.brr_machine.specs.Laws.Linear.{brr-floor-fits}
use Rattle.brr_machine.proofs.floors.floors_fit.Goals as goal

pub returns : goal.returns
returns c = brr-floor-fits
