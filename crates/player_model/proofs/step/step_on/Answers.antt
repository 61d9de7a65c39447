use Rattle.player_model.proofs.Inside.{stays_inside}
use Rattle.player_model.proofs.step.step_on.Goals as goal

pub returns-clause-inside : goal.returns-clause-inside
returns-clause-inside g c =
    stays_inside g.S.StoredFormat.decoder g.S.StoredFormat.format _ _ _ _ _ c.track.view_is c.track.invariant.0 c.requires.inside c.step_at-history.ensures.value c.step_at-history.ensures.range c.moved.ensures
