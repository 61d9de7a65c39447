use Rattle.std.proofs.Common.{◌≡◌, ◌++◌, map, take}
use Rattle.snes_directory.specs.Spelling.{block_bytes}
use Rattle.snes_directory.proofs.writing.put_blocks.Given as goal

abbrev pub invariant-loop-part : goal.invariant-loop-part
invariant-loop-part g l = l.out.items ≡ l.initial.out.items ++ block_bytes (map g.P.AsPart.part (take l.part-index l.parts))
