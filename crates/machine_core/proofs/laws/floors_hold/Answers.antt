use Rattle.std.proofs.Common.{◌≡◌, ◌*◌, arith}
use Rattle.machine_core.specs.Decoder.{start}
use Rattle.machine_core.proofs.RestFloors.{floors-below}
use Rattle.machine_core.proofs.laws.floors_hold.Goals as goal

pub returns : goal.returns
returns c = λ r fixed blocks targets list laws legal count range.
    (let first : 0 * r.decoder.samples ≡ 0 = omega arith in
    rw first at (floors-below r fixed blocks targets list (record { laws = laws; legal = legal; count = count; range = range }) 0 blocks start (omega arith) laws.start_fits))
