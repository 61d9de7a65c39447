use Rattle.player_model.specs.ImaLaws.{ima_stored}
use Rattle.player_model.proofs.laws.ima_is_stored.Goals as goal

pub returns : goal.returns
returns c = ima_stored
