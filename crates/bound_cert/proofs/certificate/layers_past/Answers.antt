use Rattle.bound_cert.proofs.PlaceSteps.{past-one}
use Rattle.std.proofs.Common.{◌∙◌}
use Rattle.bound_cert.proofs.certificate.layers_past.Goals as goal

pub loop-i-preserved : goal.loop-i-preserved
loop-i-preserved c =
    let p = past-one c.args.bytes.now c.loop-i.at c.args.count c.loop-i._i c.u32_in.result c.loop-i-test.true c.u32_in.ensures c.loop-i.invariant.fit in
    record { end = p.0 ∙ c.loop-i.invariant.end; fit = p.1 }
