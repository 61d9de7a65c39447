use Rattle.std.proofs.Common.{◌≡◌, ◌≤◌, ◌<◌, ◌+◌, ℕ, length, get_or}
use Rattle.strong_bound.proofs.rests.add_front.Given as goal

abbrev pub invariant-loop-place : goal.invariant-loop-place
invariant-loop-place l = record {
  size : length l.table ≡ length l.initial.table;
  front : (p : ℕ) → p < l.place → get_or l.table p 0 ≤ get_or l.initial.table p 0 + get_or l.front p 0;
  back : (p : ℕ) → l.place ≤ p → get_or l.table p 0 ≡ get_or l.initial.table p 0;
}
