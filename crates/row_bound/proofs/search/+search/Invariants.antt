use Rattle.std.proofs.Common.{◌-◌, ◌+◌, ◌≤◌, ◌≡◌, length}
use Rattle.std.specs.Prelude.{take, drop}
use Rattle.row_bound.specs.Guards.{Searched, left_of}
use Rattle.row_bound.proofs.search.+search.Given as goal

abbrev pub decreases-search : goal.decreases-search
decreases-search l = length l.layers.now - l.k

abbrev pub invariant-loop-v : goal.invariant-loop-v
invariant-loop-v l = record {
  prefix : length l.prefix ≡ 28;
  trail : length l.trail ≡ 28;
  kept : take l.k l.prefix ≡ take l.k l.initial.prefix;
  most : l.found ≤ l.fn.top;
  high : l.done.high ≤ length l.steps;
  low : l.done.low ≤ length l.steps;
  searched : Searched l.steps l.v l.u (take l.k l.initial.prefix) (drop (l.k + 1) l.layers) l.layer l.done l.found;
}

abbrev pub decreases-loop-v : goal.decreases-loop-v
decreases-loop-v l = left_of (length l.steps) l.done
