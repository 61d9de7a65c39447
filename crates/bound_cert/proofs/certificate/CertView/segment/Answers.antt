use Rattle.std.proofs.Common.{ap, arith, length, List}
use Rattle.bound_cert.specs.Content.{Segment}
use Rattle.bound_cert.proofs.PlaceSteps.{length-segments}
use Rattle.bound_cert.proofs.certificate.CertView.segment.Goals as goal

pub segment_place-at-requires-clause-i : goal.segment_place-at-requires-clause-i
segment_place-at-requires-clause-i c =
    let e = length-segments c.self.inside.bytes.now 8 c.self.inside.count in
    let n = ap (λ (h : List Segment). length h) c.self.view_is in omega arith
