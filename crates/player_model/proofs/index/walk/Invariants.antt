use Rattle.std.proofs.Common.{◌≡◌}
use Rattle.player_model.specs.Player.{position_after}
use Rattle.player_model.specs.Sound.{IsSound}
use Rattle.player_model.proofs.index.walk.Given as goal

abbrev pub invariant-loop : goal.invariant-loop
invariant-loop g l = record {
  at_is : l.at ≡ position_after g.S.StoredFormat.decoder g.S.StoredFormat.format l.track.memory l.initial.at l.counter;
  inside : IsSound g.S.StoredFormat.decoder g.S.StoredFormat.format l.track l.at;
}
