use Rattle.std.proofs.Common.{◌≡◌, ◌<◌}
use Rattle.std.specs.Prelude.{All}
use Rattle.adpcm_nums.specs.Least.{IsFirstLeast}
use Rattle.brr_machine.specs.Zero.{nearest_codes, shift_sum}
use Rattle.brr_machine.proofs.zero.encode_zero.Given as goal

abbrev pub invariant-loop-shift : goal.invariant-loop-shift
invariant-loop-shift l = record {
  found : IsFirstLeast (shift_sum l.targets) l.shift l.best;
  sum : l.least ≡ shift_sum l.targets l.best;
  codes : l.codes ≡ nearest_codes l.best l.targets;
  range : All (λ c. c < 16) l.codes;
}
