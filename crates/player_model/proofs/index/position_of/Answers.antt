use Rattle.std.proofs.Common.{◌-◌, arith}
use Rattle.player_model.proofs.Rounds.{from_first, from_end}
use Rattle.player_model.proofs.index.position_of.Goals as goal

pub returns-then-i-whole-clause-value : goal.returns-then-i-whole-clause-value
returns-then-i-whole-clause-value g c = from_first g.S.StoredFormat.decoder g.S.StoredFormat.format c.args.track.now _ _ c.args.i c.first_of-first.ensures.value c.walk.ensures.value

pub returns-clause-value : goal.returns-clause-value
returns-clause-value g c =
    from_end g.S.StoredFormat.decoder g.S.StoredFormat.format c.args.track.now _ _ _ (c.samples_of-whole.result) (c.args.i - c.samples_of-whole.result) c.args.i c.first_of-first.ensures.value c.walk-end.ensures.value c.walk_round.ensures.value (omega arith)
