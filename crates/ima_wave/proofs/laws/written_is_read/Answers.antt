use Rattle.ima_wave.proofs.ReadAgain.{file_again}
use Rattle.ima_wave.proofs.laws.written_is_read.Goals as goal

pub returns : goal.returns
returns c = file_again
