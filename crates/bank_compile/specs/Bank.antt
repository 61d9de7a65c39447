-- The files of a bank.
use Rattle.std.specs.Prelude.{◌≡◌, ◌≤◌, ℕ, ℤ, List, [], ◌∷◌, ◌++◌, length, map, Option, Some, None, Result, Ok}
use Rattle.std.specs.List.{flat_map, sum_by}
use Rattle.adpcm_nums.specs.Outcome.{◌>>=◌}
use Rattle.adpcm_nums.specs.declared.loop_at.LoopAt.{LoopAt}
use Rattle.adpcm_nums.specs.Sample.{AreSamples}
use Rattle.host_files.specs.declared.named_file.NamedFile.{NamedFile}
use Rattle.machine_core.specs.declared.state.Kind.{Kind}
use Rattle.machine_core.specs.declared.state.Kind.TheVariants.{Brr, Spu, Ima}
use Rattle.machine_core.specs.Blocks.{Blocks, IsInRange}
use Rattle.loop_fit.specs.Fit.{points_of}
use Rattle.ima_wave.specs.declared.file.ImaFile.{ImaFile}
use Rattle.ima_wave.specs.Written.{ima_file}
use Rattle.manifest_reader.specs.Stored.{first_pass_of, vag_name_of, ima_name_of, cert_name_of}
use Rattle.wave_form.specs.Written.{wave_file, wave_loop_file}
use Rattle.snes_directory.specs.declared.part.ImagePart.{ImagePart}
use Rattle.snes_directory.specs.declared.fault.LayFault.{LayFault}
use Rattle.snes_directory.specs.Layout.{end_of}
use Rattle.snes_directory.specs.Spelling.{image_file}
use Rattle.vag_writer.specs.Spelling.{vag_file}
use Rattle.bank_compile.specs.declared.sample.SampleOut.{SampleOut}
use Rattle.bank_kinds.specs.Codec.{Codec}
use Rattle.bank_kinds.specs.Kinds.{codec_for}
use Rattle.bank_kinds.specs.Fits.{IsFit, played_of, bytes_of}

-- a compiled sample that can stand in a bank, whatever list its blocks spell
pub record IsOut (c : Codec) (out : SampleOut) : Type 0 where
  -- a VAG file has room for a name of 16 bytes
  pub short : length out.name ≤ 16
  pub some_rate : 1 ≤ out.rate
  pub high_rate : out.rate ≤ 1000000
  pub fit : IsFit c out.fitted
  pub played : length out.first ≡ played_of c out.fitted
  pub range : AreSamples out.first
  -- the list that its blocks spell
  pub list : Blocks
  pub in_range : IsInRange c.rules.decoder out.fitted.blocks list
  pub spelled : out.blocks ≡ bytes_of c out.fitted list

-- the sample as it lies in an image
abbrev pub part_of : SampleOut → ImagePart
part_of out = record { rate = out.rate; blocks = out.blocks; loop_block = out.fitted.loop_block }

-- the file of a sound, with its loop where it has one
abbrev pub sound_file : ℕ → List ℤ → Option LoopAt → List ℕ
sound_file rate samples None = wave_file rate samples
sound_file rate samples (Some at) = wave_loop_file rate samples at

-- the file of a sample's first pass, where a block has so many samples
abbrev pub first_file : ℕ → List ℕ → SampleOut → NamedFile
first_file samples bank out = record { name = first_pass_of bank out.name; bytes = sound_file out.rate out.first (points_of samples out.fitted) }

-- the VAG file of a sample
abbrev pub vag_out : List ℕ → SampleOut → NamedFile
vag_out bank out = record { name = vag_name_of bank out.name; bytes = vag_file out.name out.rate out.blocks }

-- what the WAVE file of a sample of IMA ADPCM says: all of its source's frames, and the source's loop
abbrev pub wave_of : ℕ → SampleOut → ImaFile
wave_of align out = record { rate = out.rate; align = align; frames = out.fitted.frames; at = out.fitted.loop_frames; blocks = out.blocks }

-- that file
abbrev pub ima_out : ℕ → List ℕ → SampleOut → NamedFile
ima_out align bank out = record { name = ima_name_of bank out.name; bytes = ima_file (wave_of align out) }

-- the file of a sample's certificate
abbrev pub cert_file : List ℕ → SampleOut → NamedFile
cert_file bank out = record { name = cert_name_of bank out.name; bytes = out.cert }

-- the file that holds the blocks of a sample alone, where there is one
abbrev pub own_files : Kind → ℕ → List ℕ → SampleOut → List NamedFile
own_files Brr block bank out = []
own_files Spu block bank out = vag_out bank out ∷ []
own_files Ima block bank out = ima_out block bank out ∷ []

-- the files of a sample: its blocks where they have a file, its first pass, and its certificate
abbrev pub sample_files : Kind → ℕ → List ℕ → SampleOut → List NamedFile
sample_files kind block bank out = own_files kind block bank out ++ first_file (codec_for kind block).rules.decoder.samples bank out ∷ cert_file bank out ∷ []

-- the image, unless the samples pass the end of the console's memory
unfoldable pub image_of : ℕ → List SampleOut → Result (List ℕ) LayFault
image_of base outs = do
  total ← end_of base (length outs) (sum_by (λ out. out.fitted.blocks) outs)
  Ok (image_file base (map part_of outs))

-- the file that holds the blocks of all samples, where there is one: the image under the bank's name
abbrev pub image_files : Kind → List ℕ → ℕ → List SampleOut → Result (List NamedFile) LayFault
image_files Brr bank base outs = do
  image ← image_of base outs
  Ok (record { name = bank; bytes = image } ∷ [])
image_files Spu bank base outs = Ok []
image_files Ima bank base outs = Ok []

-- all files of a bank in store order, or why there is none
unfoldable pub bank_of : Kind → ℕ → List ℕ → ℕ → List SampleOut → Result (List NamedFile) LayFault
bank_of kind block bank base outs = do
  images ← image_files kind bank base outs
  Ok (images ++ flat_map (sample_files kind block bank) outs)
