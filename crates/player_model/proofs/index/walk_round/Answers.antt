use Rattle.std.proofs.Common.{arith, ◌+◌, ◌-◌, refl}
use Rattle.player_model.proofs.Rounds.{playing_more, known_more, came_round}
use Rattle.player_model.proofs.Same.{positions_equal}
use Rattle.player_model.proofs.index.walk_round.Goals as goal

pub returns-then-eq-clause-value : goal.returns-then-eq-clause-value
returns-then-eq-clause-value g c =
    came_round g.S.StoredFormat.decoder g.S.StoredFormat.format c.args.track.now.memory c.loop-left.known c.loop-left.at c.walk-at.result _ _
    c.playing-playing.result c.loop-left.gone (c.loop-left.gone + c.playing-playing.result) c.loop-left.left (c.loop-left.left - c.playing-playing.result)
    c.loop-left.invariant.rest_is c.loop-left.invariant.known_is c.walk-at.ensures.value (omega arith) refl
    (positions_equal _ _ c.if-eq.ensures) c.walk.ensures.value

pub loop-left-preserved-then-gone-most : goal.loop-left-preserved-then-gone-most
loop-left-preserved-then-gone-most g c = record {
  rest_is = playing_more g.S.StoredFormat.decoder g.S.StoredFormat.format c.args.track.now.memory _ _ _ c.playing-playing.result c.loop-left.left (c.loop-left.left - c.playing-playing.result)
      c.loop-left.invariant.rest_is c.walk-at.ensures.value (omega arith);
  known_is = refl;
  inside = c.walk-at.ensures.inside;
  room = omega (arith, c.loop-left.invariant.room);
}

pub loop-left-preserved : goal.loop-left-preserved
loop-left-preserved g c = record {
  rest_is = playing_more g.S.StoredFormat.decoder g.S.StoredFormat.format c.args.track.now.memory _ _ _ c.playing-playing.result c.loop-left.left (c.loop-left.left - c.playing-playing.result)
      c.loop-left.invariant.rest_is c.walk-at.ensures.value (omega arith);
  known_is = known_more g.S.StoredFormat.decoder g.S.StoredFormat.format c.args.track.now.memory _ _ _ c.playing-playing.result c.loop-left.gone _ c.loop-left.invariant.known_is c.walk-at.ensures.value refl;
  inside = c.walk-at.ensures.inside;
  room = omega (arith, c.loop-left.invariant.room);
}
