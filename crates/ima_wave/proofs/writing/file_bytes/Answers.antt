use Rattle.std.proofs.Common.{ap, ℕ, ◌∙◌, ◌≡◌, ◌+◌, ◌*◌, ◌%◌, ◌++◌, length}
use Rattle.std.specs.Prelude.{codes, flat_map}
use Rattle.wave_form.specs.Riff.{chunk_bytes, riff_head}
use Rattle.ima_wave.specs.Written.{fmt_chunk, fact_chunk, data_chunk, loop_chunks}
use Rattle.ima_wave.proofs.Sizes.{file_is}
use Rattle.ima_wave.proofs.writing.file_bytes.Goals as goal

pub returns : goal.returns
returns c =
    let file = c.args.file.now in
    let size = c.chunks_size-size.result in
    let a = chunk_bytes (fmt_chunk file.rate file.align) in
    let b = chunk_bytes (fact_chunk file.frames) in
    let loops = flat_map chunk_bytes (loop_chunks file.rate file.at) in
    let blocks = c.as_slice-blocks.ensures in
    let sizes : size ≡ 48 + (length file.blocks + length file.blocks % 2) + length loops =
    c.chunks_size-size.ensures.value file.rate ∙ ap (λ (n : ℕ). 48 + (n + n % 2) + length loops) (ap length blocks) in
    let head : c.put_riff_head.new.out.items ≡ riff_head size = c.in_ok-put_riff_head.ensures ∙ ap (λ x. x ++ riff_head size) c.in_ok-out.ensures.items in
    let fmt : c.put_fmt.new.out.items ≡ riff_head size ++ a = c.in_ok-put_fmt.ensures ∙ ap (λ x. x ++ a) head in
    let fact : c.put_fact.new.out.items ≡ (riff_head size ++ a) ++ b = c.in_ok-put_fact.ensures ∙ ap (λ x. x ++ b) fmt in
    let data' : c.put_chunk.new.out.items ≡ ((riff_head size ++ a) ++ b) ++ chunk_bytes (data_chunk file.blocks) =
    c.in_ok-put_chunk.ensures ∙ ap (λ x. c.put_fact.new.out.items ++ chunk_bytes (record { id = codes "data"; body = x })) blocks ∙ ap (λ x. x ++ chunk_bytes (data_chunk file.blocks)) fact in
    file_is file size c.put_loop.new.out.items sizes (c.in_ok-put_loop.ensures ∙ ap (λ x. x ++ loops) data')
