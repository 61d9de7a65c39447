-- The words of every fault: its kind, and then its fields in order. A new fault is one row here.
use Rattle.std.specs.Prelude.{ℕ, ℤ, pos, List, [], ◌∷◌, ◌++◌, map, codes}
use Rattle.report_text.specs.declared.part.LinePart.{LinePart}
use Rattle.report_text.specs.declared.part.LinePart.TheVariants.{Number}
use Rattle.wave_form.specs.declared.fault.WaveFault.{WaveFault}
use Rattle.wave_form.specs.declared.fault.WaveFault.TheVariants.{NotRiff, NotWave, Streaming, Truncated, DataTwice, NoFmt, BadFmt, NotPcm, BadChannels, BadRate, BadBits, BadAlign, NeedsChannel, NoChannel, NoData, NoMemory}
use Rattle.smpl_loops.specs.declared.fault.LoopFault.{LoopFault}
use Rattle.smpl_loops.specs.declared.fault.LoopFault.TheVariants.{SmplShort, LoopKind, LoopBackwards, LoopOutside}
use Rattle.loop_fit.specs.declared.fault.FitFault.{FitFault}
use Rattle.loop_fit.specs.declared.fault.FitFault.TheVariants as fit
use Rattle.snes_directory.specs.declared.fault.ImageFault.{ImageFault}
use Rattle.snes_directory.specs.declared.fault.ImageFault.TheVariants as image
use Rattle.vag_writer.specs.declared.fault.VagFault.{VagFault}
use Rattle.vag_writer.specs.declared.fault.VagFault.TheVariants as vag
use Rattle.ima_machine.specs.declared.fault.ImaFault.{ImaFault}
use Rattle.ima_machine.specs.declared.fault.ImaFault.TheVariants as head
use Rattle.ima_wave.specs.declared.fault.ImaWaveFault.{ImaWaveFault}
use Rattle.ima_wave.specs.declared.fault.ImaWaveFault.TheVariants as ima
use Rattle.player_model.specs.declared.fault.TrackFault.{TrackFault}
use Rattle.player_model.specs.declared.fault.TrackFault.TheVariants.{NoEnd, BadAgain, Split, BadFilter, BadHead}
use Rattle.block_flags.specs.declared.split.SplitFault.{SplitFault}
use Rattle.block_flags.specs.declared.split.SplitFault.TheVariants as split
use Rattle.manifest_reader.specs.declared.fault.ManifestFault.{ManifestFault}
use Rattle.manifest_reader.specs.declared.fault.ManifestFault.TheVariants as manifest
use Rattle.command_faults.specs.declared.input_fault.InputFault.{InputFault}
use Rattle.command_faults.specs.declared.input_fault.InputFault.TheVariants.{Wave, Loop, Image, Vag, Ima, Track, Shape, FileLong, BlockLength, NoEntry, TooMuch}
use Rattle.command_faults.specs.CertWords.{part_word}
use Rattle.command_faults.specs.Rows.{row, text_row}

-- what a stored bank differs in, what is stored, and what is asked for
unfoldable pub shape_row : List ℕ → ℕ → ℕ → List LinePart
shape_row what have need = text_row (codes "Shape") what ++ map (λ n. Number (pos n)) (have ∷ need ∷ [])

-- a number out of range, and its key
unfoldable pub range_row : List ℕ → ℤ → List LinePart
range_row key value = text_row (codes "OutOfRange") key ++ (Number value ∷ [])

-- the faults of a WAVE file
abbrev pub wave_parts : WaveFault → List LinePart
wave_parts NotRiff = row (codes "NotRiff") []
wave_parts NotWave = row (codes "NotWave") []
wave_parts Streaming = row (codes "Streaming") []
wave_parts (Truncated at) = row (codes "Truncated") (at ∷ [])
wave_parts DataTwice = row (codes "DataTwice") []
wave_parts NoFmt = row (codes "NoFmt") []
wave_parts (BadFmt len) = row (codes "BadFmt") (len ∷ [])
wave_parts (NotPcm tag) = row (codes "NotPcm") (tag ∷ [])
wave_parts (BadChannels channels) = row (codes "BadChannels") (channels ∷ [])
wave_parts (BadRate rate) = row (codes "BadRate") (rate ∷ [])
wave_parts (BadBits bits) = row (codes "BadBits") (bits ∷ [])
wave_parts (BadAlign align) = row (codes "BadAlign") (align ∷ [])
wave_parts NeedsChannel = row (codes "NeedsChannel") []
wave_parts (NoChannel channel) = row (codes "NoChannel") (channel ∷ [])
wave_parts NoData = row (codes "NoData") []
wave_parts NoMemory = row (codes "NoMemory") []

-- the faults of its loop
abbrev pub loop_parts : LoopFault → List LinePart
loop_parts (SmplShort len) = row (codes "SmplShort") (len ∷ [])
loop_parts (LoopKind kind) = row (codes "LoopKind") (kind ∷ [])
loop_parts (LoopBackwards start end) = row (codes "LoopBackwards") (start ∷ end ∷ [])
loop_parts (LoopOutside end frames) = row (codes "LoopOutside") (end ∷ frames ∷ [])

-- the faults of a fit
abbrev pub fit_parts : FitFault → List LinePart
fit_parts fit.EmptySample = row (codes "EmptySample") []
fit_parts (fit.LoopLength len block) = row (codes "LoopLength") (len ∷ block ∷ [])
fit_parts (fit.TooLong blocks) = row (codes "TooLong") (blocks ∷ [])
fit_parts fit.NoMemory = row (codes "NoMemory") []

-- the faults of an image
abbrev pub image_parts : ImageFault → List LinePart
image_parts image.NotImage = row (codes "NotImage") []
image_parts (image.BadVersion version) = row (codes "BadVersion") (version ∷ [])
image_parts (image.BadEntries count) = row (codes "BadEntries") (count ∷ [])
image_parts (image.BadBase base) = row (codes "BadBase") (base ∷ [])
image_parts (image.ImageFull total) = row (codes "ImageFull") (total ∷ [])
image_parts (image.ImageLength have need) = row (codes "ImageLength") (have ∷ need ∷ [])
image_parts (image.BadRate entry rate) = row (codes "BadRate") (entry ∷ rate ∷ [])
image_parts (image.BadEntry entry) = row (codes "BadEntry") (entry ∷ [])
image_parts (image.BadLoopAddress entry) = row (codes "BadLoopAddress") (entry ∷ [])
image_parts image.NoMemory = row (codes "NoMemory") []

-- the faults of a VAG file
abbrev pub vag_parts : VagFault → List LinePart
vag_parts (vag.NameLong len) = row (codes "NameLong") (len ∷ [])
vag_parts vag.NotVag = row (codes "NotVag") []
vag_parts (vag.VagShort len) = row (codes "VagShort") (len ∷ [])
vag_parts (vag.BadRate rate) = row (codes "BadRate") (rate ∷ [])
vag_parts vag.NoMemory = row (codes "NoMemory") []

-- the faults of blocks that do not split
abbrev pub split_parts : SplitFault → List LinePart
split_parts (split.Ragged len) = row (codes "Ragged") (len ∷ [])
split_parts split.NoEnd = row (codes "NoEnd") []
split_parts (split.NoLoopStart at) = row (codes "NoLoopStart") (at ∷ [])

-- the faults of a block's head in IMA ADPCM, and whose head it is
abbrev pub head_parts : ImaFault → List LinePart
head_parts (head.BadIndex index) = row (codes "BadIndex") (index ∷ [])
head_parts (head.BadReserved value) = row (codes "BadReserved") (value ∷ [])

abbrev pub bad_head_parts : ℕ → ImaFault → List LinePart
bad_head_parts block fault = row (codes "BadHead") (block ∷ []) ++ head_parts fault

-- the faults of a WAVE file of IMA ADPCM; one that holds another prints nothing of its own
abbrev pub ima_parts : ImaWaveFault → List LinePart
ima_parts (ima.Walk fault) = wave_parts fault
ima_parts ima.NoFmt = row (codes "NoFmt") []
ima_parts (ima.BadFmt len) = row (codes "BadFmt") (len ∷ [])
ima_parts (ima.NotIma tag) = row (codes "NotIma") (tag ∷ [])
ima_parts (ima.BadChannels channels) = row (codes "BadChannels") (channels ∷ [])
ima_parts (ima.BadRate rate) = row (codes "BadRate") (rate ∷ [])
ima_parts (ima.BadBits bits) = row (codes "BadBits") (bits ∷ [])
ima_parts (ima.BadAlign align) = row (codes "BadAlign") (align ∷ [])
ima_parts ima.NoData = row (codes "NoData") []
ima_parts (ima.BadHead block fault) = bad_head_parts block fault
ima_parts (ima.Loop fault) = loop_parts fault
ima_parts ima.NoMemory = row (codes "NoMemory") []

-- the faults of a track
abbrev pub track_parts : TrackFault → List LinePart
track_parts (NoEnd at) = row (codes "NoEnd") (at ∷ [])
track_parts (BadAgain at) = row (codes "BadAgain") (at ∷ [])
track_parts (Split fault) = split_parts fault
track_parts (BadFilter block filter) = row (codes "BadFilter") (block ∷ filter ∷ [])
track_parts (BadHead block fault) = bad_head_parts block fault

-- the faults of a manifest
abbrev pub manifest_parts : ManifestFault → List LinePart
manifest_parts (manifest.TooLong len) = row (codes "TooLong") (len ∷ [])
manifest_parts manifest.NotToml = row (codes "NotToml") []
manifest_parts (manifest.UnknownKey key) = text_row (codes "UnknownKey") key
manifest_parts (manifest.MissingKey key) = text_row (codes "MissingKey") key
manifest_parts (manifest.WrongKind key) = text_row (codes "WrongKind") key
manifest_parts (manifest.OutOfRange key value) = range_row key value
manifest_parts (manifest.BadWord key) = text_row (codes "BadWord") key
manifest_parts manifest.NoSamples = row (codes "NoSamples") []
manifest_parts (manifest.TooMany count) = row (codes "TooMany") (count ∷ [])
manifest_parts (manifest.SameName name) = text_row (codes "SameName") name
manifest_parts (manifest.Clash name) = text_row (codes "Clash") name
manifest_parts manifest.NoMemory = row (codes "NoMemory") []

-- the faults of an input; one that holds another prints nothing of its own
abbrev pub input_parts : InputFault → List LinePart
input_parts (Wave fault) = wave_parts fault
input_parts (Loop fault) = loop_parts fault
input_parts (Image fault) = image_parts fault
input_parts (Vag fault) = vag_parts fault
input_parts (Ima fault) = ima_parts fault
input_parts (Track fault) = track_parts fault
input_parts (Shape what have need) = shape_row (part_word what) have need
input_parts (FileLong most) = row (codes "FileLong") (most ∷ [])
input_parts (BlockLength len) = row (codes "BlockLength") (len ∷ [])
input_parts (NoEntry entry count) = row (codes "NoEntry") (entry ∷ count ∷ [])
input_parts (TooMuch blocks) = row (codes "TooMuch") (blocks ∷ [])
