-- What a file says of one of its entries: the first outputs of a track of an image, of a VAG file or of a WAVE file of IMA ADPCM.
use Rattle.std.specs.Prelude.{ℕ, zero, suc, nat_lt, if◌then◌else◌, ℤ, List, [], ◌++◌, length, codes, Option, Some, None, Result, Ok, Err}
use Rattle.std.specs.Fmt.{signed_decimal}
use Rattle.adpcm_nums.specs.First.{first_where}
use Rattle.adpcm_nums.specs.Outcome.{◌>>=◌}
use Rattle.machine_core.specs.declared.state.Kind.{Kind}
use Rattle.machine_core.specs.declared.state.Kind.TheVariants.{Brr, Spu, Ima}
use Rattle.player_model.specs.Track.{Track}
use Rattle.brr_machine.specs.Brr.{brr}
use Rattle.spu_machine.specs.Spu.{spu}
use Rattle.player_model.specs.BrrFormat.{brr_format}
use Rattle.player_model.specs.SpuFormat.{spu_format}
use Rattle.player_model.specs.SpuTrack.{spu_track_of}
use Rattle.player_model.specs.Sound.{heard}
use Rattle.player_model.specs.ImaTrack.{ImaSound, blocks_of, heard_ima, ima_track_of}
use Rattle.player_model.specs.Limit.{is_much}
use Rattle.ima_machine.specs.Ima.{samples_in}
use Rattle.ima_wave.specs.declared.file.ImaFile.{ImaFile}
use Rattle.ima_wave.specs.Reading.{ima_of}
use Rattle.bank_kinds.specs.Replay.{sound_of}
use Rattle.vag_writer.specs.declared.vag.Vag.{Vag}
use Rattle.vag_writer.specs.Reading.{vag_of}
use Rattle.snes_directory.specs.declared.image.Image.{Image}
use Rattle.snes_directory.specs.Reading.{image_of}
use Rattle.snes_directory.specs.EntryTracks.{blocks_in, is_long, track_at}
use Rattle.command_faults.specs.declared.status.Status.{Status}
use Rattle.command_faults.specs.declared.status.Status.TheVariants.{Input}
use Rattle.command_faults.specs.declared.input_fault.InputFault.{InputFault}
use Rattle.command_faults.specs.declared.input_fault.InputFault.TheVariants.{NoEntry, TooMuch, Image as OfImage, Vag as OfVag, Ima as OfIma, Track as OfTrack}
use Rattle.command_plan.specs.Front.{whole_in}

-- what was read of a file, or its fault under the file's name
abbrev pub or_refused : {X E : Type 0} → List ℕ → (E → InputFault) → Result X E → Result X Status
or_refused file fault (Ok x) = Ok x
or_refused file fault (Err e) = Err (Input file (fault e))

-- the image that a file is
unfoldable pub image_in : List ℕ → List ℕ → Result Image Status
image_in file bytes = or_refused file (λ f. OfImage f) (image_of bytes)

-- the track that was asked for, unless an entry is too long, of which the first is told
abbrev pub track_unless : List ℕ → Image → ℕ → Option ℕ → Result Track Status
track_unless file image entry (Some i) = Err (Input file (TooMuch (blocks_in (track_at image i))))
track_unless file image entry None =
    if nat_lt entry (length image.starts) then or_refused file (λ f. OfTrack f) (track_at image entry)
    else Err (Input file (NoEntry entry (length image.starts)))

-- the track of the entry that was asked for, or the first fault
unfoldable pub track_in : List ℕ → Image → ℕ → Result Track Status
track_in file image entry = track_unless file image entry (first_where (is_long image) (length image.starts))

-- the VAG file that a file is
unfoldable pub vag_in : List ℕ → List ℕ → Result Vag Status
vag_in file bytes = or_refused file (λ f. OfVag f) (vag_of bytes)

-- the one entry of a VAG file, unless it has more than 4,096 blocks
abbrev pub only_track : List ℕ → Track → ℕ → Result Track Status
only_track file track entry =
    if nat_lt 4096 track.blocks then Err (Input file (TooMuch track.blocks))
    else (if nat_lt entry 1 then Ok track else Err (Input file (NoEntry entry 1)))

-- the track of the entry that was asked for, or the first fault
unfoldable pub vag_track_in : List ℕ → Vag → ℕ → Result Track Status
vag_track_in file vag entry = do
  track ← or_refused file (λ f. OfTrack f) (spu_track_of vag.blocks)
  only_track file track entry

-- the WAVE file of IMA ADPCM that a file is
unfoldable pub ima_in : List ℕ → List ℕ → Result ImaFile Status
ima_in file bytes = or_refused file (λ f. OfIma f) (ima_of bytes)

-- the one entry of such a file, unless it has too many blocks or samples in them
abbrev pub only_sound : List ℕ → ℕ → ImaSound → ℕ → Result ImaSound Status
only_sound file samples sound entry =
    if is_much (blocks_of sound) samples then Err (Input file (TooMuch (blocks_of sound)))
    else (if nat_lt entry 1 then Ok sound else Err (Input file (NoEntry entry 1)))

-- the track of the entry that was asked for, or the first fault
unfoldable pub ima_track_in : List ℕ → ImaFile → ℕ → Result ImaSound Status
ima_track_in file said entry = do
  track ← or_refused file (λ f. OfTrack f) (ima_track_of (sound_of said))
  only_sound file (samples_in said.align) track entry

-- an output, and the end of its line
abbrev pub output_line : ℤ → List ℕ
output_line output = signed_decimal output ++ codes "\n"

-- the first of these outputs, one in a line
unfoldable pub play_lines : (ℕ → ℤ) → ℕ → List ℕ
play_lines output zero = []
play_lines output (suc n) = play_lines output n ++ output_line (output n)

-- the first outputs of an entry of an image, or the first fault
unfoldable pub image_said : List ℕ → ℕ → ℕ → List ℕ → Result (List ℕ) Status
image_said file entry count bytes = do
  image ← image_in file bytes
  track ← track_in file image entry
  Ok (play_lines (heard brr brr_format track) count)

-- the same of a VAG file
unfoldable pub vag_said : List ℕ → ℕ → ℕ → List ℕ → Result (List ℕ) Status
vag_said file entry count bytes = do
  vag ← vag_in file bytes
  track ← vag_track_in file vag entry
  Ok (play_lines (heard spu spu_format track) count)

-- the same of a WAVE file of IMA ADPCM
unfoldable pub ima_said : List ℕ → ℕ → ℕ → List ℕ → Result (List ℕ) Status
ima_said file entry count bytes = do
  said ← ima_in file bytes
  track ← ima_track_in file said entry
  Ok (play_lines (heard_ima track) count)

-- the file that is read, by its format
abbrev pub said_by : Kind → List ℕ → ℕ → ℕ → List ℕ → Result (List ℕ) Status
said_by Brr file entry count bytes = image_said file entry count bytes
said_by Spu file entry count bytes = vag_said file entry count bytes
said_by Ima file entry count bytes = ima_said file entry count bytes

-- what the front of a file says of an entry: its first outputs, or the first fault
unfoldable pub said_of : Kind → List ℕ → ℕ → ℕ → List ℕ → Result (List ℕ) Status
said_of kind file entry count front = do
  bytes ← whole_in file front
  said_by kind file entry count bytes
