use Rattle.player_model.proofs.Rounds.{one_more}
use Rattle.player_model.proofs.index.walk.Goals as goal

pub loop-preserved : goal.loop-preserved
loop-preserved g c = record {
  at_is = one_more g.S.StoredFormat.decoder g.S.StoredFormat.format c.args.track.now.memory c.args.from c.loop.at c.follow-at.result c.loop.counter c.loop.invariant.at_is c.follow-at.ensures.value;
  inside = c.follow-at.ensures.inside;
}
