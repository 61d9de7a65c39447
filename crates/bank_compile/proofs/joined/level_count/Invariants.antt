use Rattle.std.proofs.Common.{◌≡◌, ◌≤◌, take, map}
use Rattle.bank_kinds.specs.Certified.{level_count}
use Rattle.bank_compile.proofs.joined.level_count.Given as goal

abbrev pub invariant-loop-found : goal.invariant-loop-found
invariant-loop-found l = record {
  few : l.count ≤ l.found-index;
  count_is : l.count ≡ level_count l.level (map (λ f. f.cert.level) (take l.found-index l.founds));
}
