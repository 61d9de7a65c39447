use Rattle.wave_form.proofs.ReadAgain.{loop_again}
use Rattle.wave_form.proofs.laws.written_loop_is_read.Goals as goal

pub returns : goal.returns
returns c = record { sound = loop_again; first_loop = c.written_loop_is_read.ensures }
