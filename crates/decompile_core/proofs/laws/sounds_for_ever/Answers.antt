use Rattle.decompile_core.proofs.FileSounds.{are_heard}
use Rattle.decompile_core.proofs.laws.sounds_for_ever.Goals as goal

pub returns : goal.returns
returns c = are_heard
