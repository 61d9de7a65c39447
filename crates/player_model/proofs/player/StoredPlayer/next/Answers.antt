use Rattle.player_model.proofs.Inside.{plays_on}
use Rattle.player_model.proofs.player.StoredPlayer.next.Goals as goal

pub invariant_of-self-2 : goal.invariant_of-self-2
invariant_of-self-2 g c = plays_on g.S.StoredFormat.decoder g.S.StoredFormat.format _ _ _ _ c.self.invariant c.if-self.false c.step_on-at.ensures.value c.step_on-at.ensures.inside
