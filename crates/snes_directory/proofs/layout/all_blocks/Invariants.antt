use Rattle.std.proofs.Common.{◌≡◌, ◌*◌, ◌^◌, ◌≤◌, sum, take}
use Rattle.snes_directory.proofs.layout.all_blocks.Given as goal

abbrev pub invariant-loop-count : goal.invariant-loop-count
invariant-loop-count l = record {
  all_is : l.all ≡ sum (take l.count-index l.blocks);
  high : l.all ≤ l.count-index * 2 ^ 32;
}
