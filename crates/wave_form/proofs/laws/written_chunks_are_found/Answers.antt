use Rattle.wave_form.proofs.WalkAgain.{written_again}
use Rattle.wave_form.proofs.laws.written_chunks_are_found.Goals as goal

pub returns : goal.returns
returns c = written_again
