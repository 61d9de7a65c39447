-- What a bank file is taken apart into, or the first fault.
use Rattle.std.specs.Prelude.{ℕ, zero, suc, ◌-◌, ◌*◌, if◌then◌else◌, List, [], ◌∷◌, ◌++◌, length, get_or, Option, Some, None, Result, Ok, Err}
use Rattle.adpcm_nums.specs.First.{first_where}
use Rattle.adpcm_nums.specs.Outcome.{◌>>=◌}
use Rattle.brr_machine.specs.Brr.{brr}
use Rattle.spu_machine.specs.Spu.{spu}
use Rattle.ima_machine.specs.Ima.{samples_in}
use Rattle.player_model.specs.Track.{Track}
use Rattle.player_model.specs.BrrFormat.{brr_format}
use Rattle.player_model.specs.SpuFormat.{spu_format}
use Rattle.player_model.specs.SpuTrack.{spu_track_of}
use Rattle.player_model.specs.ImaTrack.{ImaSound, blocks_of, ima_track_of}
use Rattle.player_model.specs.Limit.{is_much}
use Rattle.snes_directory.specs.declared.image.Image.{Image}
use Rattle.snes_directory.specs.Reading.{image_of}
use Rattle.snes_directory.specs.EntryTracks.{blocks_in, is_long, track_at}
use Rattle.vag_writer.specs.declared.vag.Vag.{Vag}
use Rattle.vag_writer.specs.Reading.{vag_of}
use Rattle.ima_wave.specs.declared.file.ImaFile.{ImaFile}
use Rattle.ima_wave.specs.Reading.{ima_of}
use Rattle.decompile_core.specs.declared.form.Form.{Form}
use Rattle.decompile_core.specs.declared.form.Form.TheVariants.{Brr, Vag as VagForm, Ima}
use Rattle.decompile_core.specs.declared.fault.DecompileFault.{DecompileFault}
use Rattle.decompile_core.specs.declared.fault.DecompileFault.TheVariants.{Image as OfImage, Vag as OfVag, Ima as OfIma, Track as OfTrack, TooMuch}
use Rattle.decompile_core.specs.declared.recovered.Recovered.{Recovered}
use Rattle.decompile_core.specs.Recovered.{stored_recovered, sound_recovered}

-- what was read, or the reader's fault
abbrev pub or_refused : {X E : Type 0} → (E → DecompileFault) → Result X E → Result X DecompileFault
or_refused fault (Ok x) = Ok x
or_refused fault (Err e) = Err (fault e)

-- the image that bytes are
unfoldable pub image_in : List ℕ → Result Image DecompileFault
image_in bytes = or_refused (λ f. OfImage f) (image_of bytes)

-- what an entry is taken apart into
abbrev pub entry_of : Image → ℕ → Result Recovered DecompileFault
entry_of image i = do
  track ← or_refused (λ f. OfTrack f) (track_at image i)
  Ok (stored_recovered brr brr_format (get_or image.rates i 0) 0 track)

-- the first n entries
unfoldable pub entries_of : Image → ℕ → Result (List Recovered) DecompileFault
entries_of image zero = Ok []
entries_of image (suc n) = do
  before ← entries_of image n
  entry ← entry_of image n
  Ok (before ++ entry ∷ [])

-- the entries, unless one is too long, of which the first is told
abbrev pub unless_long : Image → Option ℕ → Result (List Recovered) DecompileFault
unless_long image (Some i) = Err (TooMuch (blocks_in (track_at image i)))
unless_long image None = entries_of image (length image.starts)

-- all entries of an image
unfoldable pub image_decompiled : List ℕ → Result (List Recovered) DecompileFault
image_decompiled bytes = do
  image ← image_in bytes
  unless_long image (first_where (is_long image) (length image.starts))

-- the VAG file that bytes are
unfoldable pub vag_in : List ℕ → Result Vag DecompileFault
vag_in bytes = or_refused (λ f. OfVag f) (vag_of bytes)

-- a track of SPU-ADPCM, unless it is too long
abbrev pub short_track : Track → Result Track DecompileFault
short_track track = if is_much track.blocks spu.samples then Err (TooMuch track.blocks) else Ok track

-- the track of a VAG file
unfoldable pub vag_track : Vag → Result Track DecompileFault
vag_track vag = do
  track ← or_refused (λ f. OfTrack f) (spu_track_of vag.blocks)
  short_track track

-- the entry of a VAG file; what stands behind its end block is counted
unfoldable pub vag_recovered : List ℕ → Result Recovered DecompileFault
vag_recovered bytes = do
  vag ← vag_in bytes
  track ← vag_track vag
  Ok (stored_recovered spu spu_format vag.rate (length vag.blocks - 16 * track.blocks) track)

-- the WAVE file of IMA ADPCM that bytes are
unfoldable pub ima_in : List ℕ → Result ImaFile DecompileFault
ima_in bytes = or_refused (λ f. OfIma f) (ima_of bytes)

-- its frames, which are decoded once and without the loop
abbrev pub frames_of : ImaFile → ImaSound
frames_of file = record { align = file.align; bytes = file.blocks; frames = file.frames; loop_at = None }

-- a track of IMA ADPCM with so many samples in a block, unless it is too long
abbrev pub short_sound : ℕ → ImaSound → Result ImaSound DecompileFault
short_sound samples t = if is_much (blocks_of t) samples then Err (TooMuch (blocks_of t)) else Ok t

-- the track of these frames
unfoldable pub ima_track_in : ImaFile → Result ImaSound DecompileFault
ima_track_in file = do
  track ← or_refused (λ f. OfTrack f) (ima_track_of (frames_of file))
  short_sound (samples_in file.align) track

-- the entry of such a file
unfoldable pub ima_recovered : List ℕ → Result Recovered DecompileFault
ima_recovered bytes = do
  file ← ima_in bytes
  track ← ima_track_in file
  Ok (sound_recovered file.rate file.at track)

-- a list of one entry
abbrev pub only : Result Recovered DecompileFault → Result (List Recovered) DecompileFault
only read = read >>= (λ entry. Ok (entry ∷ []))

-- the entries of a file, by its format
unfoldable pub decompiled : Form → List ℕ → Result (List Recovered) DecompileFault
decompiled Brr bytes = image_decompiled bytes
decompiled VagForm bytes = only (vag_recovered bytes)
decompiled Ima bytes = only (ima_recovered bytes)
