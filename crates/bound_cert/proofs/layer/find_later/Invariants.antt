use Rattle.std.proofs.Common.{◌≡◌, ◌-◌}
use Rattle.bound_cert.specs.Content.{found_at, AreSorted}
use Rattle.bound_cert.specs.Places.{layers_at, Fit}
use Rattle.bound_cert.proofs.layer.find_later.Given as goal

abbrev pub invariant-loop-k : goal.invariant-loop-k
invariant-loop-k l = record {
  left : found_at l.at (layers_at l.bytes l.at (l.count - l.k)) l.key ≡ found_at l.start (layers_at l.bytes l.start l.count) l.key;
  fit : Fit l.bytes l.at (l.count - l.k);
  sorted : AreSorted (layers_at l.bytes l.at (l.count - l.k));
}
