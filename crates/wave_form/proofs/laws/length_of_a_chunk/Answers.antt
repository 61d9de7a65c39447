use Rattle.std.proofs.Common.{◌∙◌, arith}
use Rattle.wave_form.proofs.Spelling.{length-chunk_bytes}
use Rattle.wave_form.proofs.laws.length_of_a_chunk.Goals as goal

pub returns : goal.returns
returns c = λ chunk id. length-chunk_bytes chunk ∙ omega (arith, id)
