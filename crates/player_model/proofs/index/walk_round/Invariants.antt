use Rattle.std.proofs.Common.{◌≡◌, ◌+◌, ◌≤◌}
use Rattle.player_model.specs.Player.{position_after}
use Rattle.player_model.specs.Sound.{IsSound}
use Rattle.player_model.proofs.index.walk_round.Given as goal

abbrev pub invariant-loop-left : goal.invariant-loop-left
invariant-loop-left g l = record {
  rest_is : position_after g.S.StoredFormat.decoder g.S.StoredFormat.format l.track.memory l.initial.at l.initial.left ≡ position_after g.S.StoredFormat.decoder g.S.StoredFormat.format l.track.memory l.at l.left;
  known_is : position_after g.S.StoredFormat.decoder g.S.StoredFormat.format l.track.memory l.known l.gone ≡ l.at;
  inside : IsSound g.S.StoredFormat.decoder g.S.StoredFormat.format l.track l.at;
  room : l.gone + l.left ≤ l.initial.left;
}

abbrev pub decreases-loop-left : goal.decreases-loop-left
decreases-loop-left g l = l.left
