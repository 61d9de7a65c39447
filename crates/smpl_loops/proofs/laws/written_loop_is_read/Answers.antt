use Rattle.smpl_loops.proofs.ReadAgain.{read_again}
use Rattle.smpl_loops.proofs.laws.written_loop_is_read.Goals as goal

pub returns : goal.returns
returns c = read_again
