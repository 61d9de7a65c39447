use Rattle.linear_machine.specs.Laws.FloorTruth.{floor-holds, floor-small}
use Rattle.linear_machine.proofs.laws.floors_hold.Goals as goal

pub returns-clause-below : goal.returns-clause-below
returns-clause-below c = λ l head p targets symbol at is within fits. floor-holds l is head p targets symbol at within fits

pub returns-clause-small : goal.returns-clause-small
returns-clause-small c = λ l head p targets is all. floor-small l is head p targets all
