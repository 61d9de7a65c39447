-- The list of blocks that is stored for a fitted sound, or the first fault of its file.
use Rattle.std.specs.Prelude.{ℕ, nat_lt, if◌then◌else◌, List, length, get_or, Result, Ok, Err}
use Rattle.adpcm_nums.specs.Outcome.{◌>>=◌}
use Rattle.machine_core.specs.Blocks.{Blocks, must_forget}
use Rattle.machine_core.specs.declared.state.Kind.{Kind}
use Rattle.machine_core.specs.declared.state.Kind.TheVariants.{Brr, Spu}
use Rattle.machine_core.specs.Decoder.{Decoder}
use Rattle.brr_machine.specs.Brr.{brr}
use Rattle.spu_machine.specs.Spu.{spu}
use Rattle.player_model.specs.Format.{Format}
use Rattle.player_model.specs.BrrFormat.{brr_format}
use Rattle.player_model.specs.SpuFormat.{spu_format}
use Rattle.player_model.specs.BrrTrack.{track_of}
use Rattle.player_model.specs.SpuTrack.{spu_track_of}
use Rattle.player_model.specs.ImaTrack.{blocks_of, list_of}
use Rattle.player_model.specs.Stored.{blocks_in}
use Rattle.player_model.specs.Track.{Track, loop_block_of}
use Rattle.snes_directory.specs.Reading.{image_of}
use Rattle.snes_directory.specs.declared.image.Image.{Image}
use Rattle.vag_writer.specs.Reading.{vag_of}
use Rattle.ima_wave.specs.Reading.{ima_of}
use Rattle.loop_fit.specs.declared.fitted.Fitted.{Fitted}
use Rattle.command_faults.specs.declared.input_fault.InputFault.{InputFault}
use Rattle.command_faults.specs.declared.input_fault.InputFault.TheVariants.{Image as OfImage, Vag, Ima as OfIma, Track as OfTrack, FileLong}
use Rattle.command_faults.specs.declared.input_fault.ShapePart.TheVariants.{Entries}
use Rattle.bank_kinds.specs.Replay.{sound_of}
use Rattle.bank_check.specs.Shape.{tested, flagged_shape, framed_shape}

abbrev pub or_fault : {X E : Type 0} → (E → InputFault) → Result X E → Result X InputFault
or_fault tell (Ok x) = Ok x
or_fault tell (Err e) = Err (tell e)

-- the front of a file that may have so many bytes
abbrev pub whole_file : ℕ → List ℕ → Result (List ℕ) InputFault
whole_file most front = if nat_lt most (length front) then Err (FileLong most) else Ok front

-- the image of a bank of so many samples
unfoldable pub bank_image : ℕ → List ℕ → Result Image InputFault
bank_image count front = do
  bytes ← whole_file 8388608 front
  image ← or_fault (λ f. OfImage f) (image_of bytes)
  counted ← tested Entries (length image.starts) count
  Ok image

-- the list of a track, which must have the shape of the fitted sound
unfoldable pub track_list : Kind → Decoder → Format → Fitted → Track → Result Blocks InputFault
track_list kind d f fitted t = do
  shaped ← flagged_shape d (must_forget kind fitted.loop_block) fitted t.blocks (loop_block_of f t) (blocks_in d f t.memory t.start t.blocks)
  Ok (blocks_in d f t.memory t.start t.blocks)

-- entry j of an image
unfoldable pub image_list : Image → ℕ → Fitted → Result Blocks InputFault
image_list image j fitted = do
  track ← or_fault (λ f. OfTrack f) (track_of image.memory (get_or image.starts j 0) (get_or image.agains j 0))
  track_list Brr brr brr_format fitted track

-- a VAG file
unfoldable pub vag_list : Fitted → List ℕ → Result Blocks InputFault
vag_list fitted front = do
  bytes ← whole_file 8388608 front
  vag ← or_fault (λ f. Vag f) (vag_of bytes)
  track ← or_fault (λ f. OfTrack f) (spu_track_of vag.blocks)
  track_list Spu spu spu_format fitted track

-- a WAVE file of IMA ADPCM with blocks of so many bytes
unfoldable pub ima_list : ℕ → Fitted → List ℕ → Result Blocks InputFault
ima_list align fitted front = do
  bytes ← whole_file 8388608 front
  file ← or_fault (λ f. OfIma f) (ima_of bytes)
  shaped ← framed_shape align fitted file.align (blocks_of (sound_of file)) file.frames file.at
  Ok (list_of (sound_of file))
