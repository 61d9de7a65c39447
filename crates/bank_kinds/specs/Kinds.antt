-- What each kind of bank is made of.
use Rattle.std.specs.Prelude.{ℕ}
use Rattle.machine_core.specs.declared.state.Kind.{Kind}
use Rattle.machine_core.specs.declared.state.Kind.TheVariants.{Brr, Spu, Ima}
use Rattle.brr_machine.specs.BrrRules.{brr_rules}
use Rattle.spu_machine.specs.SpuRules.{spu_rules}
use Rattle.ima_machine.specs.Ima.{samples_in}
use Rattle.ima_machine.specs.ImaRules.{ima_rules}
use Rattle.player_model.specs.BrrFormat.{brr_format}
use Rattle.player_model.specs.SpuFormat.{spu_format}
use Rattle.player_model.specs.ImaFormat.{ima_format}
use Rattle.bank_kinds.specs.Codec.{Codec, stored_codec}

-- the SNES's bit rate reduction
abbrev pub brr_codec : Codec
brr_codec = stored_codec brr_rules brr_format

-- the PlayStation's SPU-ADPCM
abbrev pub spu_codec : Codec
spu_codec = stored_codec spu_rules spu_format

-- IMA ADPCM of WAVE files, with blocks of so many bytes
abbrev pub ima_codec : ℕ → Codec
ima_codec align = stored_codec (ima_rules (samples_in align)) (ima_format align)

-- the codec of a kind; in IMA ADPCM the manifest says how many bytes a block has
abbrev pub codec_for : Kind → ℕ → Codec
codec_for Brr block = brr_codec
codec_for Spu block = spu_codec
codec_for Ima block = ima_codec block
