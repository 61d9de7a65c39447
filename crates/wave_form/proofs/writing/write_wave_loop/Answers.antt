use Rattle.std.proofs.Common.{ap, length, ◌∙◌}
use Rattle.wave_form.proofs.Spelling.{length-wave_loop_file}
use Rattle.wave_form.proofs.writing.write_wave_loop.Goals as goal

pub returns-in-Ok-clause-size : goal.returns-in-Ok-clause-size
returns-in-Ok-clause-size c = ap length (c.from_vec.ensures ∙ c.in-Ok.ensures) ∙ length-wave_loop_file c.args.rate c.args.samples.now c.args.at
