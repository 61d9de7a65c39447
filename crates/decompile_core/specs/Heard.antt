-- What the players of a file's entries give, and what it is to sound as one of them.
use Rattle.std.specs.Prelude.{◌≡◌, ◌<◌, ℕ, ℤ, pos, ◌*ℤ◌, false, List, length, get_or, Option, Result, Ok}
use Rattle.adpcm_nums.specs.Outcome.{◌>>=◌}
use Rattle.adpcm_nums.specs.Round.{round_of}
use Rattle.adpcm_nums.specs.declared.loop_at.LoopAt.{LoopAt}
use Rattle.brr_machine.specs.Brr.{brr}
use Rattle.spu_machine.specs.Spu.{spu}
use Rattle.player_model.specs.BrrFormat.{brr_format}
use Rattle.player_model.specs.SpuFormat.{spu_format}
use Rattle.player_model.specs.SpuTrack.{spu_track_of}
use Rattle.player_model.specs.Sound.{heard}
use Rattle.player_model.specs.Track.{Track}
use Rattle.player_model.specs.ImaTrack.{ImaSound, heard_ima, ima_track_of}
use Rattle.snes_directory.specs.declared.image.Image.{Image}
use Rattle.ima_wave.specs.declared.file.ImaFile.{ImaFile}
use Rattle.decompile_core.specs.declared.form.Form.{Form}
use Rattle.decompile_core.specs.declared.form.Form.TheVariants.{Brr, Vag, Ima}
use Rattle.decompile_core.specs.declared.fault.DecompileFault.{DecompileFault}
use Rattle.decompile_core.specs.declared.fault.DecompileFault.TheVariants.{Track as OfTrack}
use Rattle.decompile_core.specs.declared.recovered.Recovered.{Recovered}
use Rattle.decompile_core.specs.declared.recovered.Settles.TheVariants.{Unsettled}
use Rattle.player_model.specs.Limit.{is_much}
use Rattle.decompile_core.specs.Recovered.{first_settles}
use Rattle.snes_directory.specs.EntryTracks.{track_at}
use Rattle.decompile_core.specs.Decompiled.{entry_of, image_in, ima_in, or_refused, vag_in}

-- the sound of a WAVE file of IMA ADPCM, with its loop
abbrev pub sound_of : ImaFile → ImaSound
sound_of file = record { align = file.align; bytes = file.blocks; frames = file.frames; loop_at = file.at }

-- the outputs of the player of entry j of a file; a VAG file and a WAVE file have one entry
unfoldable pub player_of : Form → List ℕ → ℕ → Result (ℕ → ℤ) DecompileFault
player_of Brr bytes j = do
  image ← image_in bytes
  track ← or_refused (λ f. OfTrack f) (track_at image j)
  Ok (heard brr brr_format track)
player_of Vag bytes j = do
  vag ← vag_in bytes
  track ← or_refused (λ f. OfTrack f) (spu_track_of vag.blocks)
  Ok (heard spu spu_format track)
player_of Ima bytes j = do
  file ← ima_in bytes
  track ← or_refused (λ f. OfTrack f) (ima_track_of (sound_of file))
  Ok (heard_ima track)

-- what an output is multiplied by
abbrev pub scale_of : Form → ℕ
scale_of Brr = brr.scale
scale_of Vag = spu.scale
scale_of Ima = 1

-- samples that go round their loop for ever are outputs, each times a scale
abbrev pub SoundsAs : List ℤ → Option LoopAt → ℕ → (ℕ → ℤ) → Type 0
SoundsAs samples points scale output = (i : ℕ) → round_of samples points i ≡ pos scale *ℤ output i

-- an entry has a player, and where it settles or has no loop it sounds as the player for ever
pub record IsHeard (form : Form) (bytes : List ℕ) (j : ℕ) (entry : Recovered) : Type 0 where
  pub output : ℕ → ℤ
  pub player_is : player_of form bytes j ≡ Ok output
  pub sounds : (entry.settles ≡ Unsettled → ⊥) → SoundsAs entry.samples entry.loop_at (scale_of form) output

-- each of the first n entries of an image is what its track is taken apart into
pub record AreEntries (image : Image) (n : ℕ) (entries : List Recovered) : Type 0 where
  pub count : length entries ≡ n
  pub each : (j : ℕ) (other : Recovered) → j < n → entry_of image j ≡ Ok (get_or entries j other)

-- an entry of an image has a track, which is not too long
pub record IsShort (image : Image) (j : ℕ) : Type 0 where
  pub track : Track
  pub track_is : track_at image j ≡ Ok track
  pub few : is_much track.blocks brr.samples ≡ false

-- the sound of a list that goes round for ever, as an entry
abbrev pub first_pass : ℕ → List ℤ → Option LoopAt → ℕ → Recovered
first_pass rate samples points trailing = record { rate = rate; samples = samples; loop_at = points; settles = first_settles points; trailing = trailing }
