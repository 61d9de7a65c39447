use Rattle.std.proofs.Common.{◌≡◌, ◌≤◌, length, drop}
use Rattle.bound_cert.specs.Scan.{segments_scan}
use Rattle.bound_cert.proofs.reading.segments_read.Given as goal

abbrev pub invariant-loop-blocks : goal.invariant-loop-blocks
invariant-loop-blocks l = record {
  left : segments_scan l.kind l.samples (drop l.blocks-index l.segments) l.bytes l.at ≡ segments_scan l.kind l.samples l.segments l.bytes l.start;
  place : l.at ≤ length l.bytes;
}
