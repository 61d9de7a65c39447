use Rattle.std.proofs.Common.{◌≡◌, ◌++◌, length, map}
use Rattle.std.specs.Vec.Iter.{into_iter_items, into_iter_len}
use Rattle.bank_compile.proofs.joined.certificates.Given as goal

abbrev pub invariant-loop-found : goal.invariant-loop-found
invariant-loop-found l = record {
  split : l.yielded ++ into_iter_items l.found-iterator ≡ into_iter_items l.initial.found-iterator;
  left : into_iter_len l.found-iterator ≡ length (into_iter_items l.found-iterator);
  certs : l.certs.items ≡ map (λ f. f.cert) l.yielded;
}
