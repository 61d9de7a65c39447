use Rattle.std.proofs.Common.{◌≡◌, ◌+◌}
use Rattle.player_model.specs.Sound.{heard}
use Rattle.decompile_core.specs.Playings.{samples_of}
use Rattle.decompile_core.proofs.playings.play_on.Given as goal

abbrev pub invariant-loop : goal.invariant-loop
invariant-loop g l = record {
  player : l.player ≡ record { track = l.initial.player.track; count = l.initial.player.count + l.counter };
  played : l.samples.items ≡ samples_of g.S.StoredFormat.decoder.scale (heard g.S.StoredFormat.decoder g.S.StoredFormat.format l.initial.player.track) (l.initial.player.count + l.counter);
}
