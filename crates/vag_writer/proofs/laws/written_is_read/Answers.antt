use Rattle.vag_writer.proofs.ReadAgain.{written_again}
use Rattle.vag_writer.proofs.laws.written_is_read.Goals as goal

pub returns : goal.returns
returns c = written_again
