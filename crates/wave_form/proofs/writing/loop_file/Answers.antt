use Rattle.std.proofs.Common.{◌++◌, ap, sym, ◌∙◌}
use Rattle.std.specs.Prelude.{codes}
use Rattle.wave_form.specs.Riff.{chunk_bytes}
use Rattle.wave_form.specs.Written.{loop_chunk}
use Rattle.wave_form.proofs.Spelling.{wave_loop_file-is}
use Rattle.wave_form.proofs.writing.loop_file.Goals as goal

pub returns : goal.returns
returns c =
    c.in_ok-put_chunk.ensures
    ∙ (ap (λ body. c.in_ok-out.out.items ++ chunk_bytes (record { id = codes "smpl"; body = body })) c.sampler_body.ensures
    ∙ (ap (λ sound. sound ++ chunk_bytes (loop_chunk c.args.rate c.args.at)) c.in_ok-out.ensures ∙ sym (wave_loop_file-is c.args.rate c.args.samples.now c.args.at)))
