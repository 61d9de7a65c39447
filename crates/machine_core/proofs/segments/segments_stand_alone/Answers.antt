use Rattle.machine_core.proofs.PartLaws.{part-legal, segment-sum}
use Rattle.machine_core.proofs.FloorParts.{part-floors}
use Rattle.machine_core.proofs.segments.segments_stand_alone.Goals as goal

pub returns : goal.returns
returns c = record { legal = part-legal; sum = segment-sum; floor = part-floors }
