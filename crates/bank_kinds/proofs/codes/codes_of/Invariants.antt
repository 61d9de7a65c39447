use Rattle.std.proofs.Common.{◌≡◌, ℕ, ◌<◌, get_or, length}
use Rattle.bank_kinds.proofs.codes.codes_of.Given as goal

abbrev pub invariant-loop-place : goal.invariant-loop-place
invariant-loop-place g l = record {
  count : length l.codes ≡ g.row.N;
  filled : (k : ℕ) → k < l.place → get_or l.codes k 0 ≡ get_or l.symbols k 0;
}
