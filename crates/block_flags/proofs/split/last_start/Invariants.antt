use Rattle.std.proofs.Common.{◌≡◌}
use Rattle.block_flags.specs.Last.{last_where}
use Rattle.block_flags.specs.Split.{starts_at}
use Rattle.block_flags.proofs.split.last_start.Given as goal

abbrev pub invariant-loop-block : goal.invariant-loop-block
invariant-loop-block l = l.last ≡ last_where (starts_at l.kind l.bytes) l.block
