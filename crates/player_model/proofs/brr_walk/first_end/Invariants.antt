use Rattle.std.proofs.Common.{◌≡◌}
use Rattle.std.specs.Prelude.{None}
use Rattle.adpcm_nums.specs.First.{first_where}
use Rattle.player_model.specs.BrrFormat.{brr_format}
use Rattle.player_model.specs.Track.{ends_at}
use Rattle.player_model.proofs.brr_walk.first_end.Given as goal

abbrev pub invariant-loop-block : goal.invariant-loop-block
invariant-loop-block l = first_where (ends_at brr_format l.memory l.start) l.block ≡ None
