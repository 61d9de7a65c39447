use Rattle.player_model.proofs.Inside.{begins_inside}
use Rattle.player_model.proofs.step.first_of.Goals as goal

pub returns-clause-inside : goal.returns-clause-inside
returns-clause-inside g c = begins_inside g.S.StoredFormat.decoder g.S.StoredFormat.format _ _ c.track.view_is g.met.S.StoredFormat.lawful c.track.invariant.0
