use Rattle.std.proofs.Common.{◌≡◌}
use Rattle.adpcm_nums.specs.Least.{IsFirstLeast}
use Rattle.linear_machine.proofs.codes.least_of_all.Given as goal

abbrev pub invariant-loop-code : goal.invariant-loop-code
invariant-loop-code g l = record {
  found : IsFirstLeast (g.C.CodeCosts.cost l.costs) l.code l.best;
  cost : l.least ≡ g.C.CodeCosts.cost l.costs l.best;
}
