use Rattle.std.proofs.Common.{◌≡◌}
use Rattle.std.specs.Prelude.{None}
use Rattle.adpcm_nums.specs.First.{first_where}
use Rattle.player_model.specs.SpuTrack.{has_bad_filter}
use Rattle.player_model.proofs.spu_walk.bad_block.Given as goal

abbrev pub invariant-loop-block : goal.invariant-loop-block
invariant-loop-block l = first_where (has_bad_filter l.bytes) l.block ≡ None
