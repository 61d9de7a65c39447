use Rattle.std.proofs.Common.{◌≡◌, ◌+◌, ◌*◌, map, sum, take}
use Rattle.std.specs.List.{range_with_len}
use Rattle.snes_directory.proofs.layout.starts.Given as goal

abbrev pub invariant-loop-count : goal.invariant-loop-count
invariant-loop-count l = record {
  at_is : l.at ≡ l.first + 9 * sum (take l.count-index l.blocks);
  starts_are : l.starts ≡ map (λ i. l.first + 9 * sum (take i l.blocks)) (range_with_len 0 l.count-index);
}
