use Rattle.ima_machine.proofs.Placed.{head-placed, first-placed, code-placed, fault-placed}
use Rattle.ima_machine.proofs.laws.blocks_are_read_in_place.Goals as goal

pub returns : goal.returns
returns c = record { head = head-placed; first = first-placed; code = code-placed; fault = fault-placed }
