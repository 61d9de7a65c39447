-- The WAVE files that are written: one channel of 16 bits, and a sampler where there is a loop.
use Rattle.std.specs.Prelude.{ℕ, ◌*◌, ℤ, List, [], ◌∷◌, ◌++◌, flat_map, codes}
use Rattle.std.specs.Int.{w16, cast_unsigned}
use Rattle.byteorder.specs.Endian.{little_bytes}
use Rattle.adpcm_nums.specs.declared.loop_at.LoopAt.{LoopAt}
use Rattle.smpl_loops.specs.Sampler.{sampler_of}
use Rattle.wave_form.specs.Riff.{Chunk, riff_file}

-- a `fmt ` body: tag 1, one channel, the rate, bytes per second, two bytes a frame, 16 bits
unfoldable pub fmt_body : ℕ → List ℕ
fmt_body rate = little_bytes 2 1 ++ (little_bytes 2 1 ++ (little_bytes 4 rate ++ (little_bytes 4 (rate * 2) ++ (little_bytes 2 2 ++ little_bytes 2 16))))

-- the chunk of the format
abbrev pub fmt_chunk : ℕ → Chunk
fmt_chunk rate = record { id = codes "fmt "; body = fmt_body rate }

-- a sample as a signed number of two bytes
abbrev pub sample_bytes : ℤ → List ℕ
sample_bytes x = little_bytes 2 (cast_unsigned w16 x)

-- the chunk of the samples
abbrev pub data_chunk : List ℤ → Chunk
data_chunk samples = record { id = codes "data"; body = flat_map sample_bytes samples }

-- the chunks of a sound
abbrev pub sound_chunks : ℕ → List ℤ → List Chunk
sound_chunks rate samples = fmt_chunk rate ∷ data_chunk samples ∷ []

-- the chunk of a sound's loop
abbrev pub loop_chunk : ℕ → LoopAt → Chunk
loop_chunk rate at = record { id = codes "smpl"; body = sampler_of rate at }

-- the file of a sound
unfoldable pub wave_file : ℕ → List ℤ → List ℕ
wave_file rate samples = riff_file (sound_chunks rate samples)

-- the file of a sound with a loop
unfoldable pub wave_loop_file : ℕ → List ℤ → LoopAt → List ℕ
wave_loop_file rate samples at = riff_file (sound_chunks rate samples ++ loop_chunk rate at ∷ [])
