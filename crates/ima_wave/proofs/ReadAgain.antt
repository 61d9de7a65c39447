-- A file that was written is read again.
use Rattle.std.proofs.Common.{◌≡◌, ℕ, ◌+◌, ◌*◌, ◌/◌, ◌^◌, ◌≤◌, ◌<◌, List, [], ◌∷◌, ◌++◌, length, Option, Some, None, Ok, refl, ap, sym, ◌∙◌, arith}
use Rattle.std.specs.Prelude.{option_map, IfSome, codes}
use Rattle.std.proofs.lemmas.Nat.{div-add-mod'}
use Rattle.adpcm_nums.specs.declared.loop_at.LoopAt.{LoopAt}
use Rattle.byteorder.specs.Endian.{little_bytes}
use Rattle.smpl_loops.specs.Loops.{first_loop_of}
use Rattle.smpl_loops.specs.Sampler.{sampler_of}
use Rattle.smpl_loops.proofs.ReadAgain.{read_again}
use Rattle.wave_form.specs.declared.chunks.Chunks.{Chunks}
use Rattle.wave_form.specs.Span.{bytes_in}
use Rattle.wave_form.specs.Walk.{walk_of}
use Rattle.wave_form.specs.Riff.{riff_file, AreChunks, body_named}
use Rattle.wave_form.proofs.WalkAgain.{written_again}
use Rattle.ima_machine.specs.Ima.{samples_in}
use Rattle.ima_machine.specs.Lawful.{align-low}
use Rattle.ima_wave.specs.declared.file.ImaFile.{ImaFile}
use Rattle.ima_wave.specs.declared.format.Format.{Format}
use Rattle.ima_wave.specs.Format.{format_of}
use Rattle.ima_wave.specs.Heads.{block_count, blocks_of}
use Rattle.ima_wave.specs.Reading.{in_loop, frames_of, all_frames, ima_of}
use Rattle.ima_wave.specs.Written.{fmt_body, layout_body, fmt_chunk, fact_chunk, data_chunk, loop_chunks, ima_chunks, ima_file}
use Rattle.ima_wave.specs.Files.{IsImaFile}
use Rattle.ima_wave.proofs.BlocksAgain.{blocks_again, few-frames}
use Rattle.ima_wave.proofs.FilesAgain.{format_again, frames_again}

-- what a found thing comes from
some_from_map : {A B : Type 0} (f : A → B) (found : Option A) (b : B) → option_map f found ≡ Some b → (a : A) × (found ≡ Some a) × (f a ≡ b)
some_from_map f None b is = absurd (cc)
some_from_map f (Some a) b is = (a, refl, cc)

-- the sampler of a loop, where there is one
abbrev sampler_for : ℕ → Option LoopAt → Option (List ℕ)
sampler_for rate at = option_map (sampler_of rate) at

-- the chunks can be told apart
chunks-are : (rate align frames : ℕ) (blocks : List ℕ) (at : Option LoopAt) → length blocks < 2 ^ 30 → AreChunks (fmt_chunk rate align ∷ fact_chunk frames ∷ data_chunk blocks ∷ loop_chunks rate at)
unfolding fmt_body layout_body sampler_of
chunks-are rate align frames blocks None few =
    record { each = (record { id = refl; size = omega arith }, (record { id = refl; size = omega arith }, (record { id = refl; size = omega arith }, tt))); data_once = omega arith }
chunks-are rate align frames blocks (Some at) few =
    record { each = (record { id = refl; size = omega arith }, (record { id = refl; size = omega arith }, (record { id = refl; size = omega arith }, (record { id = refl; size = omega arith }, tt)))); data_once = omega arith }

-- and the sampler is that of the loop
smpl-named : (rate align frames : ℕ) (blocks : List ℕ) (at : Option LoopAt) → body_named (codes "smpl") (fmt_chunk rate align ∷ fact_chunk frames ∷ data_chunk blocks ∷ loop_chunks rate at) ≡ sampler_for rate at
smpl-named rate align frames blocks None = refl
smpl-named rate align frames blocks (Some at) = refl

-- the loop is read again
loop-again : (rate frames : ℕ) (at : Option LoopAt) → IfSome at (λ l. l.start ≤ l.end) → IfSome at (λ l. l.end < frames) → frames < 2 ^ 32 → first_loop_of (sampler_for rate at) frames ≡ Ok at
loop-again rate frames None forward inside few = refl
loop-again rate frames (Some at) forward inside few = read_again rate frames at forward inside few

-- a file whose chunks are known is read
steps : (bytes : List ℕ) (found : Chunks) (file : ImaFile) → IsImaFile file → length file.blocks < 2 ^ 30 → walk_of bytes ≡ Ok found
    → option_map (bytes_in bytes) found.fmt ≡ Some (fmt_body file.rate file.align) → option_map (bytes_in bytes) found.pcm ≡ Some file.blocks
    → option_map (bytes_in bytes) found.smpl ≡ sampler_for file.rate file.at → option_map (bytes_in bytes) found.fact ≡ Some (little_bytes 4 file.frames)
    → ima_of bytes ≡ Ok file
unfolding ima_of
steps bytes found file is few walked fmt pcm smpl fact =
    let fmt_at = some_from_map (bytes_in bytes) found.fmt _ fmt in
    let pcm_at = some_from_map (bytes_in bytes) found.pcm _ pcm in
    let align = file.align in
    let made : Format = record { rate = file.rate; align = align } in
    let format : format_of (bytes_in bytes fmt_at.0) ≡ Ok made = ap format_of fmt_at.2 ∙ format_again file.rate align is.some_rate is.low_rate is.align in
    let blocks : blocks_of align (bytes_in bytes pcm_at.0) ≡ Ok file.blocks = ap (blocks_of align) pcm_at.2 ∙ blocks_again align file.blocks is.whole is.heads in
    let all : all_frames align (bytes_in bytes pcm_at.0) ≡ all_frames align file.blocks = ap (all_frames align) pcm_at.2 in
    let small : all_frames align file.blocks ≤ 2 * length file.blocks = few-frames align (block_count align file.blocks) (length file.blocks) (align-low align is.align) (omega (arith, div-add-mod' (length file.blocks) align)) in
    let frames : frames_of (Some (little_bytes 4 file.frames)) (all_frames align file.blocks) ≡ file.frames = frames_again file.frames (all_frames align file.blocks) is.frames (omega (arith, small)) in
    let within = is.frames in
    let at : in_loop (first_loop_of (sampler_for file.rate file.at) file.frames) ≡ Ok file.at = ap in_loop (loop-again file.rate file.frames file.at is.forward is.inside (omega (arith, small, within))) in
    rw (walked, fmt_at.1, format, pcm_at.1, blocks, fact, all, frames, smpl, at) refl

pub file_again : (file : ImaFile) → IsImaFile file → length file.blocks < 2 ^ 30 → ima_of (ima_file file) ≡ Ok file
unfolding ima_file
file_again file is few =
    let again = written_again (ima_chunks file) (chunks-are file.rate file.align file.frames file.blocks file.at few) in
    steps (riff_file (ima_chunks file)) again.0 file is few again.1 again.2.fmt again.2.pcm (again.2.smpl ∙ smpl-named file.rate file.align file.frames file.blocks file.at) again.2.fact
