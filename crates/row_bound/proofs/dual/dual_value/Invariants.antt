use Rattle.std.proofs.Common.{◌≡◌, ◌^◌}
use Rattle.std.specs.Prelude.{pos, negsuc, ◌+ℤ◌, ◌≤ℤ◌, drop}
use Rattle.row_bound.specs.Bound.{bound}
use Rattle.row_bound.proofs.dual.dual_value.Given as goal

abbrev pub invariant-loop-i : goal.invariant-loop-i
invariant-loop-i l = record {
  value : bound l.rows l.mus 0 l.fn.v l.fn.u (pos 0) (pos 0) ≡ l.total +ℤ bound (drop l.i l.rows) l.mus l.i l.before l.last l.q l.p;
  total_low : negsuc (2 ^ 62) ≤ℤ l.total;
  total_high : l.total ≤ℤ pos (2 ^ 62);
  q_low : negsuc (2 ^ 38) ≤ℤ l.q;
  q_high : l.q ≤ℤ pos (2 ^ 38);
  p_low : negsuc (2 ^ 36) ≤ℤ l.p;
  p_high : l.p ≤ℤ pos (2 ^ 36);
}
