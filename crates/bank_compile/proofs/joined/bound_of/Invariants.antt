use Rattle.std.proofs.Common.{◌≡◌, take}
use Rattle.std.specs.List.{sum_by}
use Rattle.bank_compile.proofs.joined.bound_of.Given as goal

abbrev pub invariant-loop-found : goal.invariant-loop-found
invariant-loop-found l = l.bound ≡ sum_by (λ f. f.cert.bound) (take l.found-index l.founds)
