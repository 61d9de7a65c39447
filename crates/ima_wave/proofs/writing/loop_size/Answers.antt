use Rattle.std.proofs.Common.{length, sym, ap, ◌∙◌, arith}
use Rattle.std.specs.Prelude.{flat_map}
use Rattle.wave_form.specs.Riff.{chunk_bytes}
use Rattle.ima_wave.specs.Written.{loop_chunks}
use Rattle.ima_wave.proofs.Sizes.{loop_long}
use Rattle.ima_wave.proofs.writing.loop_size.Goals as goal

pub returns-in-Some : goal.returns-in-Some
returns-in-Some c = record {
  value = λ rate. sym (ap (λ at. length (flat_map chunk_bytes (loop_chunks rate at))) c.in-Some.is ∙ loop_long rate c.in-Some.field-0);
  small = omega arith;
}
