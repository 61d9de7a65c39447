-- What a WAVE file of IMA ADPCM says, or the first fault.
use Rattle.std.specs.Prelude.{ℕ, ◌*◌, ◌/◌, ◌||◌, nat_lt, if◌then◌else◌, List, length, Option, Some, None, option_map, Result, Ok, Err}
use Rattle.std.specs.Option.{ok_or}
use Rattle.byteorder.specs.Endian.{little_number}
use Rattle.adpcm_nums.specs.Outcome.{◌>>=◌}
use Rattle.adpcm_nums.specs.declared.loop_at.LoopAt.{LoopAt}
use Rattle.smpl_loops.specs.Loops.{first_loop_of}
use Rattle.smpl_loops.specs.declared.fault.LoopFault.{LoopFault}
use Rattle.wave_form.specs.declared.chunks.Chunks.{Chunks}
use Rattle.wave_form.specs.declared.fault.WaveFault.{WaveFault}
use Rattle.wave_form.specs.Span.{bytes_in}
use Rattle.wave_form.specs.Walk.{walk_of}
use Rattle.ima_machine.specs.Ima.{samples_in}
use Rattle.ima_wave.specs.declared.file.ImaFile.{ImaFile}
use Rattle.ima_wave.specs.declared.fault.ImaWaveFault.{ImaWaveFault}
use Rattle.ima_wave.specs.declared.fault.ImaWaveFault.TheVariants.{Walk, NoFmt, NoData, Loop}
use Rattle.ima_wave.specs.Format.{format_of}
use Rattle.ima_wave.specs.Heads.{block_count, blocks_of}

-- the faults of what lies below, as faults of this file
abbrev pub in_walk : Result Chunks WaveFault → Result Chunks ImaWaveFault
in_walk (Ok chunks) = Ok chunks
in_walk (Err fault) = Err (Walk fault)

abbrev pub in_loop : Result (Option LoopAt) LoopFault → Result (Option LoopAt) ImaWaveFault
in_loop (Ok at) = Ok at
in_loop (Err fault) = Err (Loop fault)

-- the frames that `fact` says, or all that there are where it does not stand, is short or says more (this project's own choice)
abbrev pub frames_of : Option (List ℕ) → ℕ → ℕ
frames_of None all = all
frames_of (Some body) all = if nat_lt (length body) 4 || nat_lt all (little_number 4 body) then all else little_number 4 body

-- the frames of so many bytes of blocks
abbrev pub all_frames : ℕ → List ℕ → ℕ
all_frames align bytes = block_count align bytes * samples_in align

-- what a file says, or its first fault
unfoldable pub ima_of : List ℕ → Result ImaFile ImaWaveFault
ima_of file = do
  chunks ← in_walk (walk_of file)
  fmt ← ok_or chunks.fmt NoFmt
  format ← format_of (bytes_in file fmt)
  pcm ← ok_or chunks.pcm NoData
  blocks ← blocks_of format.align (bytes_in file pcm)
  at ← in_loop (first_loop_of (option_map (bytes_in file) chunks.smpl) (frames_of (option_map (bytes_in file) chunks.fact) (all_frames format.align (bytes_in file pcm))))
  Ok (record { rate = format.rate; align = format.align; frames = frames_of (option_map (bytes_in file) chunks.fact) (all_frames format.align (bytes_in file pcm)); at = at; blocks = blocks })
