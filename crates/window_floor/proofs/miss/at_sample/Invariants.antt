use Rattle.std.proofs.Common.{◌≡◌, ◌≤◌, ◌^◌}
use Rattle.window_floor.specs.Numbers.{row_of}
use Rattle.window_floor.proofs.MissLaws.{so_far}
use Rattle.window_floor.proofs.miss.at_sample.Given as goal

abbrev pub invariant-loop-i : goal.invariant-loop-i
invariant-loop-i l = record {
  least : l.least ≡ so_far (row_of l.w) l.rho l.samples l.i;
  small : l.least ≤ 2 ^ 30;
}
