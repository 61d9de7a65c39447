-- The bytes of chunks, and of the files that are written.
use Rattle.std.proofs.Common.{◌≡◌, ℕ, ◌+◌, ◌*◌, ◌%◌, ◌≤◌, ℤ, List, [], ◌∷◌, ◌++◌, length, length-append, append_assoc, take, replicate, refl, sym, ap, ◌∙◌, arith}
use Rattle.std.specs.Prelude.{flat_map, codes}
use Rattle.std.proofs.lemmas.List.{append-nil, length-replicate, take_all}
use Rattle.std.proofs.lemmas.Grind.{flat_map-append}
use Rattle.byteorder.specs.Endian.{little_bytes}
use Rattle.adpcm_nums.specs.declared.loop_at.LoopAt.{LoopAt}
use Rattle.smpl_loops.specs.Sampler.{sampler_of}
use Rattle.wave_form.specs.Riff.{Chunk, chunk_head, chunk_bytes, riff_head, riff_file}
use Rattle.wave_form.specs.Written.{fmt_body, fmt_chunk, data_chunk, sound_chunks, loop_chunk, sample_bytes, wave_file, wave_loop_file}

-- a chunk takes its id, four bytes, its body and the pad
pub length-chunk_bytes : (chunk : Chunk) → length (chunk_bytes chunk) ≡ length chunk.id + 4 + length chunk.body + length chunk.body % 2
unfolding chunk_bytes
length-chunk_bytes chunk =
    let pad = length-replicate {A = ℕ} (length chunk.body % 2) 0 in
    let end = length-append chunk.body (replicate (length chunk.body % 2) 0) in
    let head = length-append chunk.id (little_bytes 4 (length chunk.body)) in
    length-append (chunk_head chunk.id (length chunk.body)) _ ∙ omega (arith, head, end, pad)

-- two bytes a sample
pub length-samples : (samples : List ℤ) → length (flat_map sample_bytes samples) ≡ length samples * 2
length-samples [] = refl
length-samples (x ∷ xs) = omega (arith, length-samples xs)

-- a data chunk of whole samples has no pad
pub data_spelled : (samples : List ℤ) → chunk_bytes (data_chunk samples) ≡ chunk_head (codes "data") (length samples * 2) ++ flat_map sample_bytes samples
unfolding chunk_bytes
data_spelled samples =
    let long = length-samples samples in
    let even : length samples * 2 % 2 ≡ 0 = omega arith in
    rw (long, even, append-nil (flat_map sample_bytes samples)) refl

-- what was written after the head and all samples
pub data_all : (old out : List ℕ) (samples : List ℤ) (i : ℕ) → length samples ≤ i
    → out ≡ (old ++ chunk_head (codes "data") (length samples * 2)) ++ flat_map sample_bytes (take i samples) → out ≡ old ++ chunk_bytes (data_chunk samples)
data_all old out samples i done is =
    let all : take i samples ≡ samples = take_all i samples done in
    is ∙ (ap (λ xs. (old ++ chunk_head (codes "data") (length samples * 2)) ++ flat_map sample_bytes xs) all
    ∙ (append_assoc old _ _ ∙ ap (λ x. old ++ x) (sym (data_spelled samples))))

-- the chunks of a sound: 24 bytes of format, a head of 8 and the samples
length-sound : (rate : ℕ) (samples : List ℤ) → length (flat_map chunk_bytes (sound_chunks rate samples)) ≡ 32 + length samples * 2
unfolding fmt_body
length-sound rate samples =
    let both = length-append (chunk_bytes (fmt_chunk rate)) (chunk_bytes (data_chunk samples) ++ []) in
    let last = length-append (chunk_bytes (data_chunk samples)) [] in
    let fmt : length (chunk_bytes (fmt_chunk rate)) ≡ 24 = length-chunk_bytes (fmt_chunk rate) in
    let samples_chunk = length-chunk_bytes (data_chunk samples) in
    let long = length-samples samples in
    omega (arith, both, last, fmt, samples_chunk, long)

-- the file of a sound, of which no more bytes are to be written
pub wave_file-is : (rate : ℕ) (samples : List ℤ) → wave_file rate samples ≡ riff_head (32 + length samples * 2 + 0) ++ flat_map chunk_bytes (sound_chunks rate samples)
unfolding wave_file riff_file
wave_file-is rate samples =
    let sound = flat_map chunk_bytes (sound_chunks rate samples) in
    let long : length sound ≡ 32 + length samples * 2 + 0 = length-sound rate samples ∙ omega arith in
    ap (λ n. riff_head n ++ sound) long

-- the chunk of a loop: a head of 8 bytes and a sampler of 60
length-loop : (rate : ℕ) (at : LoopAt) → length (chunk_bytes (loop_chunk rate at)) ≡ 68
unfolding sampler_of
length-loop rate at = length-chunk_bytes (loop_chunk rate at)

-- the file of a sound with a loop, of which the 68 bytes of the loop's chunk are written last
pub wave_loop_file-is : (rate : ℕ) (samples : List ℤ) (at : LoopAt)
    → wave_loop_file rate samples at ≡ (riff_head (32 + length samples * 2 + 68) ++ flat_map chunk_bytes (sound_chunks rate samples)) ++ chunk_bytes (loop_chunk rate at)
unfolding wave_loop_file riff_file
wave_loop_file-is rate samples at =
    let sound = flat_map chunk_bytes (sound_chunks rate samples) in
    let loop = chunk_bytes (loop_chunk rate at) in
    let split : flat_map chunk_bytes (sound_chunks rate samples ++ loop_chunk rate at ∷ []) ≡ sound ++ loop =
    flat_map-append chunk_bytes (sound_chunks rate samples) (loop_chunk rate at ∷ []) ∙ ap (λ x. sound ++ x) (append-nil loop) in
    let long : length (sound ++ loop) ≡ 32 + length samples * 2 + 68 = length-append sound loop ∙ omega (arith, length-sound rate samples, length-loop rate at) in
    ap (λ x. riff_head (length x) ++ x) split ∙ (ap (λ n. riff_head n ++ (sound ++ loop)) long ∙ sym (append_assoc (riff_head (32 + length samples * 2 + 68)) sound loop))

-- the file of a sound has 44 bytes and two for each sample
pub length-wave_file : (rate : ℕ) (samples : List ℤ) → length (wave_file rate samples) ≡ 44 + 2 * length samples
length-wave_file rate samples = ap length (wave_file-is rate samples) ∙ omega (arith, length-sound rate samples)

-- and 68 more with a loop
pub length-wave_loop_file : (rate : ℕ) (samples : List ℤ) (at : LoopAt) → length (wave_loop_file rate samples at) ≡ 112 + 2 * length samples
length-wave_loop_file rate samples at =
    let front = riff_head (32 + length samples * 2 + 68) ++ flat_map chunk_bytes (sound_chunks rate samples) in
    ap length (wave_loop_file-is rate samples at) ∙ omega (arith, length-append front (chunk_bytes (loop_chunk rate at)), length-sound rate samples, length-loop rate at)
