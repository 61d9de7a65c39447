-- The WAVE files of IMA ADPCM that are written.
use Rattle.std.specs.Prelude.{ℕ, ◌*◌, ◌/◌, List, [], ◌∷◌, ◌++◌, codes, Option, Some, None}
use Rattle.byteorder.specs.Endian.{little_bytes}
use Rattle.adpcm_nums.specs.declared.loop_at.LoopAt.{LoopAt}
use Rattle.wave_form.specs.Riff.{Chunk, riff_file}
use Rattle.wave_form.specs.Written.{loop_chunk}
use Rattle.ima_machine.specs.Ima.{samples_in}
use Rattle.ima_wave.specs.declared.file.ImaFile.{ImaFile}

-- the block align, 4 bits, an extension of two bytes: the samples of a block
unfoldable pub layout_body : ℕ → List ℕ
layout_body align = little_bytes 2 align ++ (little_bytes 2 4 ++ (little_bytes 2 2 ++ little_bytes 2 (samples_in align)))

-- a `fmt ` body: tag 17, one channel, the rate, bytes per second, and those
unfoldable pub fmt_body : ℕ → ℕ → List ℕ
fmt_body rate align = little_bytes 2 17 ++ (little_bytes 2 1 ++ (little_bytes 4 rate ++ (little_bytes 4 (rate * align / samples_in align) ++ layout_body align)))

abbrev pub fmt_chunk : ℕ → ℕ → Chunk
fmt_chunk rate align = record { id = codes "fmt "; body = fmt_body rate align }

-- the frames that are heard
abbrev pub fact_chunk : ℕ → Chunk
fact_chunk frames = record { id = codes "fact"; body = little_bytes 4 frames }

abbrev pub data_chunk : List ℕ → Chunk
data_chunk blocks = record { id = codes "data"; body = blocks }

-- the chunk of a loop, where there is one
abbrev pub loop_chunks : ℕ → Option LoopAt → List Chunk
loop_chunks rate None = []
loop_chunks rate (Some at) = loop_chunk rate at ∷ []

abbrev pub ima_chunks : ImaFile → List Chunk
ima_chunks file = fmt_chunk file.rate file.align ∷ fact_chunk file.frames ∷ data_chunk file.blocks ∷ loop_chunks file.rate file.at

unfoldable pub ima_file : ImaFile → List ℕ
ima_file file = riff_file (ima_chunks file)
