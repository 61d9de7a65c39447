use Rattle.std.proofs.Common.{◌≡◌, ◌*◌, ◌≤◌, length}
use Rattle.std.specs.Prelude.{None}
use Rattle.adpcm_nums.specs.First.{first_where}
use Rattle.player_model.specs.ImaTrack.{is_bad}
use Rattle.player_model.proofs.ima_walk.first_fault.Given as goal

abbrev pub invariant-loop-block : goal.invariant-loop-block
invariant-loop-block l = first_where (is_bad l.align l.bytes) l.block ≡ None
