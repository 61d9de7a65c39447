use Rattle.wave_form.proofs.ReadAgain.{sound_again}
use Rattle.wave_form.proofs.laws.written_sound_is_read.Goals as goal

pub returns : goal.returns
returns c = sound_again
