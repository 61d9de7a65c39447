use Rattle.std.proofs.Common.{◌≡◌, ◌+◌, ◌≤◌, ◌++◌, drop, length, map}
use Rattle.snes_directory.specs.Spelling.{block_bytes, directory_bytes}
use Rattle.snes_directory.proofs.writing.put_directory.Given as goal

-- what was put, and the directory of the samples that are left, is the whole directory
abbrev pub invariant-loop-part : goal.invariant-loop-part
invariant-loop-part g l = record {
  left : l.out.items ++ directory_bytes l.start (drop l.part-index (map g.P.AsPart.part l.parts)) ≡ l.initial.out.items ++ directory_bytes l.first (map g.P.AsPart.part l.parts);
  room : l.start + length (block_bytes (drop l.part-index (map g.P.AsPart.part l.parts))) ≤ 65536;
}
