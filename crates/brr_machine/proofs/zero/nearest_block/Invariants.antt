use Rattle.std.proofs.Common.{◌≡◌, ◌<◌, ◌≤◌, ◌*◌, ◌^◌, map, take, length}
use Rattle.std.specs.Prelude.{All}
use Rattle.machine_core.specs.Sums.{sum_from}
use Rattle.brr_machine.specs.Brr.{brr}
use Rattle.brr_machine.specs.Zero.{zero_head, nearest_code, nearest_codes, one_block}
use Rattle.brr_machine.proofs.zero.nearest_block.Given as goal

abbrev pub invariant-loop-i : goal.invariant-loop-i
invariant-loop-i l = record {
  len : length l.codes ≡ 16;
  codes : take l.i l.codes ≡ map (nearest_code l.shift) (take l.i l.targets);
  sum : l.sum ≡ sum_from brr (one_block (zero_head l.shift) (nearest_codes l.shift l.targets)) l.targets 0 l.i;
  range : All (λ c. c < 16) (take l.i l.codes);
  bound : l.sum ≤ l.i * 2 ^ 32;
}
