use Rattle.std.proofs.Common.{◌≡◌}
use Rattle.std.specs.Prelude.{None, get_or, pos}
use Rattle.adpcm_nums.specs.First.{first_where}
use Rattle.decompile_core.specs.Playings.{differs}
use Rattle.decompile_core.proofs.playings.is_again.Given as goal

abbrev pub invariant-loop-k : goal.invariant-loop-k
invariant-loop-k l = first_where (differs (λ i. get_or l.samples i (pos 0)) l.fn.at l.fn.len) l.k ≡ None
