-- The sound of a file that was written is read again.
use Rattle.std.proofs.Common.{◌≡◌, ℕ, ◌/◌, ◌≤◌, ◌^◌, ℤ, List, [], ◌∷◌, ◌++◌, length, Option, Some, None, Ok, refl, ap, ◌∙◌, arith}
use Rattle.std.specs.Prelude.{option_map, flat_map}
use Rattle.std.proofs.lemmas.List.Elements.{recursion_from_All}
use Rattle.adpcm_nums.specs.Sample.{AreSamples}
use Rattle.adpcm_nums.specs.declared.loop_at.LoopAt.{LoopAt}
use Rattle.smpl_loops.specs.Sampler.{sampler_of}
use Rattle.wave_form.specs.declared.format.Depth.TheVariants.{Sixteen}
use Rattle.wave_form.specs.declared.chunks.Chunks.{Chunks}
use Rattle.wave_form.specs.Span.{bytes_in}
use Rattle.wave_form.specs.Walk.{walk_of}
use Rattle.wave_form.specs.Format.{format_of, channel_of}
use Rattle.wave_form.specs.Frames.{samples_at}
use Rattle.wave_form.specs.Reading.{read_of}
use Rattle.wave_form.specs.Riff.{riff_file, AreChunks}
use Rattle.wave_form.specs.Written.{fmt_body, sample_bytes, sound_chunks, loop_chunk, wave_file, wave_loop_file}
use Rattle.wave_form.proofs.Spelling.{length-samples}
use Rattle.wave_form.proofs.WalkAgain.{written_again}
use Rattle.wave_form.proofs.FormatAgain.{written_format, format_again, samples_again}

-- what a found thing comes from
some_from_map : {A B : Type 0} (f : A → B) (found : Option A) (b : B) → option_map f found ≡ Some b → (a : A) × (found ≡ Some a) × (f a ≡ b)
some_from_map f None b is = absurd (cc)
some_from_map f (Some a) b is = (a, refl, cc)

-- a file whose chunks are known is read
steps : (file : List ℕ) (found : Chunks) (rate : ℕ) (samples : List ℤ) (sampler : Option (List ℕ)) → 1 ≤ rate → rate ≤ 1000000 → AreSamples samples → walk_of file ≡ Ok found
    → option_map (bytes_in file) found.fmt ≡ Some (fmt_body rate) → option_map (bytes_in file) found.pcm ≡ Some (flat_map sample_bytes samples) → option_map (bytes_in file) found.smpl ≡ sampler
    → read_of file None ≡ Ok (record { rate = rate; samples = samples; sampler = sampler })
unfolding read_of channel_of
steps file found rate samples sampler some few range walked fmt pcm smpl =
    let fmt_at = some_from_map (bytes_in file) found.fmt _ fmt in
    let pcm_at = some_from_map (bytes_in file) found.pcm _ pcm in
    let format : format_of (bytes_in file fmt_at.0) ≡ Ok (written_format rate) = ap format_of fmt_at.2 ∙ format_again rate some few in
    let half : length (bytes_in file pcm_at.0) / 2 ≡ length samples = ap (λ x. length x / 2) pcm_at.2 ∙ omega (arith, length-samples samples) in
    let sound : samples_at 2 0 Sixteen (length (bytes_in file pcm_at.0) / 2) (bytes_in file pcm_at.0) ≡ samples =
    ap (λ n. samples_at 2 0 Sixteen n (bytes_in file pcm_at.0)) half ∙ (ap (samples_at 2 0 Sixteen (length samples)) pcm_at.2 ∙ samples_again samples (recursion_from_All _ samples range)) in
    rw (walked, fmt_at.1, format, pcm_at.1, sound, smpl) refl

-- the chunks of a written sound can be told apart
sound_is : (rate : ℕ) (samples : List ℤ) → length samples ≤ 2 ^ 24 → AreChunks (sound_chunks rate samples)
unfolding fmt_body
sound_is rate samples few =
    let long = length-samples samples in
    record { each = (record { id = refl; size = omega arith }, (record { id = refl; size = omega (arith, long) }, tt)); data_once = omega arith }

-- and with the chunk of its loop
loop_is : (rate : ℕ) (samples : List ℤ) (at : LoopAt) → length samples ≤ 2 ^ 24 → AreChunks (sound_chunks rate samples ++ loop_chunk rate at ∷ [])
unfolding fmt_body sampler_of
loop_is rate samples at few =
    let long = length-samples samples in
    record { each = (record { id = refl; size = omega arith }, (record { id = refl; size = omega (arith, long) }, (record { id = refl; size = omega arith }, tt))); data_once = omega arith }

-- a written sound is read
pub sound_again : (rate : ℕ) (samples : List ℤ) → 1 ≤ rate → rate ≤ 1000000 → length samples ≤ 2 ^ 24 → AreSamples samples
    → read_of (wave_file rate samples) None ≡ Ok (record { rate = rate; samples = samples; sampler = None })
unfolding wave_file
sound_again rate samples some low few range =
    let chunks = sound_chunks rate samples in
    let again = written_again chunks (sound_is rate samples few) in
    steps (riff_file chunks) again.0 rate samples None some low range again.1 again.2.fmt again.2.pcm again.2.smpl

-- and so is one with a loop
pub loop_again : (rate : ℕ) (samples : List ℤ) (at : LoopAt) → 1 ≤ rate → rate ≤ 1000000 → length samples ≤ 2 ^ 24 → AreSamples samples
    → read_of (wave_loop_file rate samples at) None ≡ Ok (record { rate = rate; samples = samples; sampler = Some (sampler_of rate at) })
unfolding wave_loop_file
loop_again rate samples at some low few range =
    let chunks = sound_chunks rate samples ++ loop_chunk rate at ∷ [] in
    let again = written_again chunks (loop_is rate samples at few) in
    steps (riff_file chunks) again.0 rate samples (Some (sampler_of rate at)) some low range again.1 again.2.fmt again.2.pcm again.2.smpl
