use Rattle.std.proofs.Common.{arith, ◌*◌}
use Rattle.machine_core.specs.Decoder.{start}
use Rattle.machine_core.proofs.States.{sum-small}
use Rattle.machine_core.proofs.laws.sums_fit.Goals as goal

pub returns : goal.returns
returns c = λ r blocks targets list laws fits count range.
    sum-small r laws blocks list targets fits count range start laws.start_fits 0 (blocks * r.decoder.samples) (omega arith)
