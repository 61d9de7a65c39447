-- What the stored files of a sample say and sound like: all of it is said of the files alone, whoever made them.
use Rattle.std.specs.Prelude.{◌≡◌, ◌<◌, ℕ, ℤ, ◌*ℤ◌, pos, List, length, get_or, Option, None, Ok}
use Rattle.adpcm_nums.specs.declared.loop_at.LoopAt.{LoopAt}
use Rattle.adpcm_nums.specs.Round.{round_of}
use Rattle.host_files.specs.declared.named_file.NamedFile.{NamedFile}
use Rattle.machine_core.specs.declared.state.State.{State}
use Rattle.machine_core.specs.declared.state.Kind.{Kind}
use Rattle.machine_core.specs.declared.state.Kind.TheVariants.{Brr, Spu, Ima}
use Rattle.machine_core.specs.Decoder.{Decoder}
use Rattle.machine_core.specs.Blocks.{Blocks, IsLegal}
use Rattle.machine_core.specs.Sums.{sum_of}
use Rattle.brr_machine.specs.Brr.{brr}
use Rattle.spu_machine.specs.Spu.{spu}
use Rattle.player_model.specs.Format.{Format}
use Rattle.player_model.specs.Player.{play}
use Rattle.player_model.specs.Looped.{loop_points}
use Rattle.player_model.specs.Stored.{blocks_in}
use Rattle.player_model.specs.Track.{Track, loop_block_of}
use Rattle.player_model.specs.BrrFormat.{brr_format}
use Rattle.player_model.specs.BrrTrack.{track_of}
use Rattle.player_model.specs.SpuFormat.{spu_format}
use Rattle.player_model.specs.SpuTrack.{spu_track_of}
use Rattle.player_model.specs.ImaTrack.{ImaSound, blocks_of, list_of, heard_ima, ima_track_of}
use Rattle.loop_fit.specs.declared.fitted.Fitted.{Fitted}
use Rattle.loop_fit.specs.Fit.{points_of}
use Rattle.smpl_loops.specs.Loops.{first_loop_of}
use Rattle.wave_form.specs.declared.wave.Wave.{Wave}
use Rattle.wave_form.specs.Reading.{read_of}
use Rattle.snes_directory.specs.declared.image.Image.{Image}
use Rattle.snes_directory.specs.Reading.{image_of}
use Rattle.vag_writer.specs.declared.vag.Vag.{Vag}
use Rattle.vag_writer.specs.Reading.{vag_of}
use Rattle.vag_writer.specs.Spelling.{filled}
use Rattle.ima_wave.specs.declared.file.ImaFile.{ImaFile}
use Rattle.ima_wave.specs.Reading.{ima_of}
use Rattle.manifest_reader.specs.Stored.{first_pass_of, vag_name_of, ima_name_of}
use Rattle.bank_kinds.specs.Codec.{Codec, fixed_in}
use Rattle.bank_kinds.specs.Kinds.{codec_for}
use Rattle.bank_kinds.specs.Fits.{played_of}
use Rattle.bank_kinds.specs.Passes.{outputs_of}

-- an entry as its file says it, whatever the file's format
pub record Entry : Type 0 where
  pub rate : ℕ
  -- how many blocks the player comes to, and the list that they spell
  pub blocks : ℕ
  pub list : Blocks
  -- the outputs that are played again for ever
  pub points : Option LoopAt
  -- a history and a place: that output of the player
  pub plays : State → ℕ → ℤ

-- the entry of a track whose blocks are stored with flags
abbrev pub track_entry : Decoder → Format → ℕ → Track → Entry
track_entry d f rate t = record {
  rate = rate;
  blocks = t.blocks;
  list = blocks_in d f t.memory t.start t.blocks;
  points = loop_points d t.blocks (loop_block_of f t);
  plays = λ history i. play d f t.memory t.start t.again history i;
}

-- an image file has this entry at a place of its directory
pub record InImage (image : List ℕ) (j : ℕ) (entry : Entry) : Type 0 where
  pub bank : Image
  pub image_read : image_of image ≡ Ok bank
  pub within : j < length bank.rates
  pub track : Track
  pub track_is : track_of bank.memory (get_or bank.starts j 0) (get_or bank.agains j 0) ≡ Ok track
  pub entry_is : entry ≡ track_entry brr brr_format (get_or bank.rates j 0) track

-- a VAG file has this entry under a name
pub record InVag (file name : List ℕ) (entry : Entry) : Type 0 where
  pub vag : Vag
  pub vag_read : vag_of file ≡ Ok vag
  pub name_is : vag.name ≡ filled name
  pub track : Track
  pub track_is : spu_track_of vag.blocks ≡ Ok track
  pub entry_is : entry ≡ track_entry spu spu_format vag.rate track

-- the entry of a track of IMA ADPCM, whose player does not look at what was played before
abbrev pub ima_entry : ℕ → ImaSound → Entry
ima_entry rate t = record {
  rate = rate;
  blocks = blocks_of t;
  list = list_of t;
  points = t.loop_at;
  plays = λ history i. heard_ima t i;
}

-- the sound that a WAVE file of IMA ADPCM says
abbrev pub sound_of : ImaFile → ImaSound
sound_of file = record { align = file.align; bytes = file.blocks; frames = file.frames; loop_at = file.at }

-- a WAVE file of IMA ADPCM with blocks of `align` bytes and so many frames has this entry
pub record InIma (file : List ℕ) (align frames : ℕ) (entry : Entry) : Type 0 where
  pub said : ImaFile
  pub file_read : ima_of file ≡ Ok said
  -- the size of a block, in bytes
  pub align_is : said.align ≡ align
  -- how many frames it tells of
  pub frames_are : said.frames ≡ frames
  pub track : ImaSound
  pub track_is : ima_track_of (sound_of said) ≡ Ok track
  pub entry_is : entry ≡ ima_entry said.rate track

-- where sample j of a bank stands, by the bank's format: in the image, or in a file of its own, which says `block` and the frames where it is a WAVE file; `content` is what the files hold by name
abbrev pub StandsIn : Kind → ℕ → (List ℕ → List ℕ) → List ℕ → List ℕ → ℕ → ℕ → Entry → Type 0
StandsIn Brr block content bank name j frames entry = InImage (content bank) j entry
StandsIn Spu block content bank name j frames entry = InVag (content (vag_name_of bank name)) name entry
StandsIn Ima block content bank name j frames entry = InIma (content (ima_name_of bank name)) block frames entry

-- an entry, with the file of its first pass, replays a fitted sound with this rate and this error
pub record Replays (c : Codec) (entry : Entry) (first : List ℕ) (rate : ℕ) (fitted : Fitted) (error : ℕ) : Type 0 where
  pub entry_rate : entry.rate ≡ rate
  -- it has just the fitted blocks, and goes on at the fitted loop
  pub blocks_are : entry.blocks ≡ fitted.blocks
  pub loop_is : entry.points ≡ points_of c.rules.decoder.samples fitted
  -- what the file of the first pass says: a sound with the rate, of all outputs that are played, with their loop
  pub sound : Wave
  pub first_read : read_of first None ≡ Ok sound
  pub first_rate : sound.rate ≡ rate
  pub first_length : length sound.samples ≡ played_of c fitted
  -- it is just what the entry's blocks decode to
  pub first_is : sound.samples ≡ outputs_of c.rules.decoder entry.list (played_of c fitted)
  pub first_loop : first_loop_of sound.sampler (length sound.samples) ≡ Ok (points_of c.rules.decoder.samples fitted)
  -- the player of the entry gives that sound and then its loop for ever, or silence where it has none; whatever was played before
  pub plays : (history : State) (i : ℕ) → pos c.rules.decoder.scale *ℤ entry.plays history i ≡ round_of sound.samples (points_of c.rules.decoder.samples fitted) i
  -- the blocks that stand there are a legal list
  pub legal : IsLegal c.rules.decoder fitted.blocks (fixed_in c fitted) entry.list
  -- and the error is exactly theirs
  pub error_is : error ≡ sum_of c.rules.decoder entry.list fitted.targets fitted.blocks

-- sample j of a bank whose files hold this by name
pub record SampleReplays (kind : Kind) (block : ℕ) (content : List ℕ → List ℕ) (bank name : List ℕ) (j rate : ℕ) (fitted : Fitted) (error : ℕ) : Type 0 where
  pub entry : Entry
  -- a WAVE file of IMA ADPCM says just the bank's block size and the fitted frames
  pub stands : StandsIn kind block content bank name j fitted.frames entry
  pub replays : Replays (codec_for kind block) entry (content (first_pass_of bank name)) rate fitted error

-- a file of a bank is held under its name
abbrev pub IsHeld : (List ℕ → List ℕ) → NamedFile → Type 0
IsHeld content file = content file.name ≡ file.bytes
