use Rattle.std.proofs.Common.{◌≡◌, take}
use Rattle.std.specs.List.{flat_map, sum_by}
use Rattle.bank_compile.proofs.joined.joined.Given as goal

abbrev pub invariant-loop-found : goal.invariant-loop-found
invariant-loop-found l = record {
  heads : l.heads.items ≡ flat_map (λ f. f.choice.heads) (take l.found-index l.founds);
  symbols : l.symbols.items ≡ flat_map (λ f. f.choice.symbols) (take l.found-index l.founds);
  sum : l.sum ≡ sum_by (λ f. f.choice.sum) (take l.found-index l.founds);
}
