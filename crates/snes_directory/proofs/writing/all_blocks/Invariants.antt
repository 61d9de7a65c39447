use Rattle.std.proofs.Common.{◌≡◌, ◌*◌, ◌^◌, ◌≤◌, map, take}
use Rattle.std.specs.List.{sum_by}
use Rattle.snes_directory.specs.Part.{blocks_of}
use Rattle.snes_directory.proofs.writing.all_blocks.Given as goal

abbrev pub invariant-loop-part : goal.invariant-loop-part
invariant-loop-part g l = record {
  all_is : l.all ≡ sum_by blocks_of (take l.part-index (map g.P.AsPart.part l.parts));
  high : l.all ≤ l.part-index * 2 ^ 32;
}
