use Rattle.std.proofs.Common.{◌≡◌, ◌-◌, drop}
use Rattle.bound_cert.specs.Places.{segments_at, AllStand}
use Rattle.bound_cert.proofs.certificate.segment_place.Given as goal

abbrev pub invariant-loop-k : goal.invariant-loop-k
invariant-loop-k l = record {
  left : segments_at l.bytes l.at (l.count - l._k) ≡ drop l._k (segments_at l.bytes 8 l.count);
  stand : AllStand l.bytes l.at (l.count - l._k);
}
