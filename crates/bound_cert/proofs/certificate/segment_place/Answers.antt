use Rattle.std.proofs.Common.{◌∙◌, ap, arith, ◌≡◌, sym, ◌+◌, slice_get}
use Rattle.bound_cert.specs.Places.{layers_end, segments_at}
use Rattle.bound_cert.proofs.PlaceSteps.{segment-one, segment-there, one-stands}
use Rattle.bound_cert.proofs.certificate.segment_place.Goals as goal

pub loop-k-preserved : goal.loop-k-preserved
loop-k-preserved c =
    let p = segment-one c.args.bytes.now c.loop-k.at c.args.count c.loop-k._k c.layers_past-at.result (segments_at c.args.bytes.now 8 c.args.count) (omega arith)
    (c.layers_past-at.ensures ∙ ap (layers_end c.args.bytes.now (c.loop-k.at + 16)) c.u32_in.ensures) c.loop-k.invariant.left c.loop-k.invariant.stand in
    record { left = p.0; stand = p.1 }

pub returns-clause-here : goal.returns-clause-here
returns-clause-here c = let e : c.loop-k._k ≡ c.args.i = omega arith in
    ap (λ z. slice_get (segments_at c.args.bytes.now 8 c.args.count) z) (sym e) ∙ segment-there c.args.bytes.now c.loop-k.at c.args.count c.loop-k._k (segments_at c.args.bytes.now 8 c.args.count) (omega arith) c.loop-k.invariant.left

pub returns-clause-stand : goal.returns-clause-stand
returns-clause-stand c = one-stands c.args.bytes.now c.loop-k.at c.args.count c.loop-k._k (omega arith) c.loop-k.invariant.stand
