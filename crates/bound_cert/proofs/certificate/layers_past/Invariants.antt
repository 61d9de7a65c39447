use Rattle.std.proofs.Common.{◌≡◌, ◌-◌}
use Rattle.bound_cert.specs.Places.{layers_end, Fit}
use Rattle.bound_cert.proofs.certificate.layers_past.Given as goal

abbrev pub invariant-loop-i : goal.invariant-loop-i
invariant-loop-i l = record {
  end : layers_end l.bytes l.at (l.count - l._i) ≡ layers_end l.bytes l.start l.count;
  fit : Fit l.bytes l.at (l.count - l._i);
}
