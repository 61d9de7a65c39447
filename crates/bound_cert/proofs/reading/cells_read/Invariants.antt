use Rattle.std.proofs.Common.{◌≡◌, ◌-◌, ◌≤◌, None, length}
use Rattle.bound_cert.specs.Scan.{cells_scan}
use Rattle.bound_cert.proofs.reading.cells_read.Given as goal

abbrev pub invariant-loop-i : goal.invariant-loop-i
invariant-loop-i l = record {
  left : cells_scan l.limits l.bytes l.at (l.count - l._i) l.last ≡ cells_scan l.limits l.bytes l.start l.count None;
  place : l.at ≤ length l.bytes;
}
