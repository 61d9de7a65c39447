use Rattle.decompile_core.proofs.GivingBack.{frames_back, stored_back}
use Rattle.decompile_core.proofs.laws.given_back.Goals as goal

pub returns-clause-stored : goal.returns-clause-stored
returns-clause-stored c = stored_back

pub returns-clause-frames : goal.returns-clause-frames
returns-clause-frames c = frames_back
