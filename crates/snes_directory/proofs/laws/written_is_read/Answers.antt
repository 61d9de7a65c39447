use Rattle.snes_directory.proofs.ImageAgain.{written_again}
use Rattle.snes_directory.proofs.laws.written_is_read.Goals as goal

pub returns : goal.returns
returns c = written_again
