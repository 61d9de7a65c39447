use Rattle.std.proofs.Common.{ap, length, sym, ◌∙◌}
use Rattle.wave_form.proofs.Spelling.{wave_file-is, length-wave_file}
use Rattle.wave_form.proofs.writing.write_wave.Goals as goal

pub returns-in-Ok : goal.returns-in-Ok
returns-in-Ok c =
    let is = c.from_vec.ensures ∙ (c.in-Ok.ensures ∙ sym (wave_file-is c.args.rate c.args.samples.now)) in
    record { value = is; size = ap length is ∙ length-wave_file c.args.rate c.args.samples.now }
