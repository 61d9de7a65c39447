-- The sizes of chunks, and the bytes of a file chunk after chunk.
use Rattle.std.proofs.Common.{◌≡◌, ℕ, ◌+◌, ◌*◌, ◌/◌, ◌%◌, List, [], ◌∷◌, ◌++◌, length, length-append, append_assoc, arith, refl, sym, ap, ◌∙◌}
use Rattle.std.specs.Prelude.{flat_map, replicate, codes, Option, Some, None}
use Rattle.adpcm_nums.specs.declared.loop_at.LoopAt.{LoopAt}
use Rattle.std.proofs.lemmas.List.{append-nil}
use Rattle.smpl_loops.specs.Sampler.{sampler_of}
use Rattle.wave_form.specs.Riff.{Chunk, chunk_head, chunk_bytes, riff_head, riff_file}
use Rattle.wave_form.specs.Written.{loop_chunk}
use Rattle.wave_form.proofs.Spelling.{length-chunk_bytes}
use Rattle.byteorder.specs.Endian.{little_bytes}
use Rattle.ima_machine.specs.Ima.{samples_in}
use Rattle.ima_wave.specs.declared.file.ImaFile.{ImaFile}
use Rattle.ima_wave.specs.Written.{layout_body, fmt_body, fmt_chunk, fact_chunk, data_chunk, loop_chunks, ima_chunks, ima_file}

pub layout_long : (align : ℕ) → length (layout_body align) ≡ 8
unfolding layout_body
layout_long align = refl

fmt-long : (rate align : ℕ) → length (chunk_bytes (fmt_chunk rate align)) ≡ 28
unfolding fmt_body
fmt-long rate align = length-chunk_bytes (fmt_chunk rate align) ∙ omega (arith, layout_long align)

fact-long : (frames : ℕ) → length (chunk_bytes (fact_chunk frames)) ≡ 12
fact-long frames = length-chunk_bytes (fact_chunk frames)

data-long : (blocks : List ℕ) → length (chunk_bytes (data_chunk blocks)) ≡ 8 + (length blocks + length blocks % 2)
data-long blocks = length-chunk_bytes (data_chunk blocks) ∙ omega arith

smpl-long : (rate : ℕ) (at : LoopAt) → length (chunk_bytes (loop_chunk rate at)) ≡ 68
unfolding sampler_of
smpl-long rate at = length-chunk_bytes (loop_chunk rate at)

-- one chunk of 60 bytes and its head, or none
pub loop_long : (rate : ℕ) (at : LoopAt) → length (flat_map chunk_bytes (loop_chunks rate (Some at))) ≡ 68
loop_long rate at = ap (length {A = ℕ}) (append-nil (chunk_bytes (loop_chunk rate at))) ∙ smpl-long rate at

chunks-long : (file : ImaFile) → length (flat_map chunk_bytes (ima_chunks file)) ≡ 48 + (length file.blocks + length file.blocks % 2) + length (flat_map chunk_bytes (loop_chunks file.rate file.at))
chunks-long file =
    let a = chunk_bytes (fmt_chunk file.rate file.align) in
    let b = chunk_bytes (fact_chunk file.frames) in
    let c = chunk_bytes (data_chunk file.blocks) in
    let d = flat_map chunk_bytes (loop_chunks file.rate file.at) in
    omega (arith, length-append a (b ++ (c ++ d)), length-append b (c ++ d), length-append c d, fmt-long file.rate file.align, fact-long file.frames, data-long file.blocks)

-- a file's bytes, as they are written one chunk after another
pub file_is : (file : ImaFile) (size : ℕ) (bytes : List ℕ) → size ≡ 48 + (length file.blocks + length file.blocks % 2) + length (flat_map chunk_bytes (loop_chunks file.rate file.at))
    → bytes ≡ (((riff_head size ++ chunk_bytes (fmt_chunk file.rate file.align)) ++ chunk_bytes (fact_chunk file.frames)) ++ chunk_bytes (data_chunk file.blocks)) ++ flat_map chunk_bytes (loop_chunks file.rate file.at)
    → bytes ≡ ima_file file
unfolding ima_file riff_file
file_is file size bytes e is =
    let a = chunk_bytes (fmt_chunk file.rate file.align) in
    let b = chunk_bytes (fact_chunk file.frames) in
    let c = chunk_bytes (data_chunk file.blocks) in
    let d = flat_map chunk_bytes (loop_chunks file.rate file.at) in
    let head = riff_head size in
    is ∙ append_assoc ((head ++ a) ++ b) c d ∙ append_assoc (head ++ a) b (c ++ d) ∙ append_assoc head a (b ++ (c ++ d))
    ∙ ap (λ n. riff_head n ++ (a ++ (b ++ (c ++ d)))) (e ∙ sym (chunks-long file))

-- the chunk of the format, as it is written one field after another
pub fmt_is : (old out : List ℕ) (rate align second : ℕ) → second ≡ rate * align / samples_in align
    → out ≡ (((((old ++ chunk_head (codes "fmt ") 20) ++ little_bytes 2 17) ++ little_bytes 2 1) ++ little_bytes 4 rate) ++ little_bytes 4 second) ++ layout_body align
    → out ≡ old ++ chunk_bytes (fmt_chunk rate align)
unfolding chunk_bytes fmt_body
fmt_is old out rate align second e is =
    let body = little_bytes 2 17 ++ (little_bytes 2 1 ++ (little_bytes 4 rate ++ (little_bytes 4 second ++ layout_body align))) in
    let long : length body ≡ 20 = omega (arith, layout_long align) in
    let whole : out ≡ old ++ (chunk_head (codes "fmt ") 20 ++ (body ++ [])) =
    is ∙ simp append_assoc (ap (λ x. old ++ (chunk_head (codes "fmt ") 20 ++ x)) (sym (append-nil body))) in
    whole
    ∙ ap (λ n. old ++ (chunk_head (codes "fmt ") n ++ (body ++ replicate (n % 2) 0))) (sym long)
    ∙ ap (λ n. old ++ chunk_bytes (record { id = codes "fmt "; body = little_bytes 2 17 ++ (little_bytes 2 1 ++ (little_bytes 4 rate ++ (little_bytes 4 n ++ layout_body align))) })) e
