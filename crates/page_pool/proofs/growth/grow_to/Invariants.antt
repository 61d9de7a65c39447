use Rattle.std.proofs.Common.{◌≡◌, ◌-◌, ◌≤◌, [], ◌++◌, length}
use Rattle.std.specs.Prelude.{max, replicate}
use Rattle.page_pool.proofs.growth.grow_to.Given as goal

-- pages that are still wanted
abbrev pub decreases-loop-alloc : goal.decreases-loop-alloc
decreases-loop-alloc g l = l.want - length l.pages.items

-- empty pages were added, and no more than are wanted
abbrev pub invariant-loop-alloc : goal.invariant-loop-alloc
invariant-loop-alloc g l = record {
  before : l.before ≡ length l.initial.pages.items;
  want : l.want ≡ l.fn.want;
  some : l.before ≤ length l.pages.items;
  most : length l.pages.items ≤ max l.before l.want;
  added : l.pages.items ≡ l.initial.pages.items ++ replicate (length l.pages.items - l.before) [];
}
