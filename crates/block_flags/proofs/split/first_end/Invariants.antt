use Rattle.std.proofs.Common.{◌≡◌}
use Rattle.std.specs.Prelude.{None}
use Rattle.adpcm_nums.specs.First.{first_where}
use Rattle.block_flags.specs.Split.{ends_at}
use Rattle.block_flags.proofs.split.first_end.Given as goal

abbrev pub invariant-loop-block : goal.invariant-loop-block
invariant-loop-block l = first_where (ends_at l.kind l.bytes) l.block ≡ None
