use Rattle.std.proofs.Common.{◌≡◌}
use Rattle.std.specs.List.{range_with_len}
use Rattle.std.specs.Prelude.{map}
use Rattle.player_model.specs.ImaTrack.{heard_ima}
use Rattle.decompile_core.proofs.ima.play_frames.Given as goal

abbrev pub invariant-loop : goal.invariant-loop
invariant-loop l = record {
  player : l.player ≡ record { track = l.fn.track; count = l.counter };
  played : l.samples.items ≡ map (heard_ima l.fn.track) (range_with_len 0 l.counter);
}
