use Rattle.ima_machine.specs.Laws.ChainTruth.{floor-true}
use Rattle.ima_machine.proofs.laws.floors_hold.Goals as goal

pub returns : goal.returns
returns c = floor-true
