use Rattle.std.proofs.Common.{◌≡◌, ◌≤◌, ◌<◌, ◌+◌, ℕ, IsTrue, length}
use Rattle.strong_bound.specs.Quiet.{IsUnderStates}
use Rattle.strong_bound.proofs.quiet.under_heads.Given as goal

abbrev pub invariant-loop-head : goal.invariant-loop-head
invariant-loop-head g l =
    let d = (g.M.Machine.rules l.machine).decoder in record {
      table : length l.table ≡ d.samples + 1;
      front : length l.front ≡ l.twice + 1;
      most : l.least ≤ l.fn.top;
      under : (head : ℕ) → head < l.head → IsTrue (d.allows head l.rule) → IsUnderStates d l.aim l.targets l.twice head l.least;
    }
