use Rattle.bound_cert.proofs.PlaceSteps.{some-left, first-stands}
use Rattle.bound_cert.proofs.certificate.SegmentsLeft.split_first.Goals as goal

pub over-requires : goal.over-requires
over-requires c =
    let v = c.self.inside in
    first-stands v.bytes.now v.at v.count (some-left v.bytes.now v.at v.count c.args.self.now c.self.view_is c.requires) c.self.invariant
