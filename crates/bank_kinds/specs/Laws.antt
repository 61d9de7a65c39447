-- Each kind of bank keeps the laws of codecs. The proofs stand here since no definition may cite proofs/.
use Rattle.std.proofs.Common.{refl, arith, IsTrue}
use Rattle.std.specs.Prelude.{ℕ, ◌*◌, ◌^◌, ◌<◌, ◌≤◌, pos, ◌*ℤ◌}
use Rattle.std.proofs.lemmas.Int.{ints}
use Rattle.adpcm_nums.specs.Sample.{IsSample}
use Rattle.machine_core.specs.declared.state.State.{State}
use Rattle.machine_core.specs.declared.state.Kind.{Kind}
use Rattle.machine_core.specs.declared.state.Kind.TheVariants.{Brr, Spu, Ima}
use Rattle.brr_machine.specs.Brr.{is_brr_state}
use Rattle.brr_machine.specs.BrrRules.{brr_rules}
use Rattle.brr_machine.specs.Laws.{brr_is_machine}
use Rattle.brr_machine.specs.Laws.States as brr
use Rattle.spu_machine.specs.Spu.{is_spu_state}
use Rattle.spu_machine.specs.SpuRules.{spu_rules}
use Rattle.spu_machine.specs.Laws.{spu_is_machine}
use Rattle.spu_machine.specs.Laws.States as spu
use Rattle.ima_machine.specs.Ima.{is_ima_state, is_align, samples_in}
use Rattle.ima_machine.specs.ImaRules.{ima_rules}
use Rattle.ima_machine.specs.Lawful.{lawful}
use Rattle.ima_machine.specs.Laws.States as ima
use Rattle.player_model.specs.BrrFormat.{brr_format}
use Rattle.player_model.specs.BrrLaws.{brr_stored}
use Rattle.player_model.specs.SpuFormat.{spu_format}
use Rattle.player_model.specs.SpuLaws.{spu_stored}
use Rattle.player_model.specs.ImaFormat.{ima_format}
use Rattle.player_model.specs.ImaLaws.{ima_stored}
use Rattle.bank_kinds.specs.Codec.{IsCodec, IsStoredCodec, IsFlagged}
use Rattle.brr_machine.specs.Laws.Boxed.{brr_is_boxed}
use Rattle.spu_machine.specs.Laws.Boxed.{spu_is_boxed}
use Rattle.ima_machine.specs.Laws.Boxed.{ima_is_boxed}
use Rattle.ima_machine.proofs.Aligns.{align_high}
use Rattle.bank_kinds.specs.Filed.{brr_filed, spu_filed, ima_filed}
use Rattle.bank_kinds.specs.Kinds.{brr_codec, spu_codec, ima_codec, codec_for}

-- twice an output of 15 bits is a sample
twice-fits : (at : State) → IsTrue (is_brr_state at) → IsSample (pos 2 *ℤ at.a)
twice-fits at is = let out = brr.last_bounds at is in let low = out.low in let high = out.high in record { low = omega (arith, ints, low); high = omega (arith, ints, high) }

-- an output of 16 bits is one as it stands
once-fits : (at : State) → IsTrue (is_spu_state at) → IsSample (pos 1 *ℤ at.a)
once-fits at is = let out = spu.last_bounds at is in let low = out.low in let high = out.high in record { low = omega (arith, ints, low); high = omega (arith, ints, high) }

-- and so is one of IMA ADPCM
own-fits : (at : State) → IsTrue (is_ima_state at) → IsSample (pos 1 *ℤ at.a)
own-fits at is = let out = ima.output_of at is in let low = out.low in let high = out.high in record { low = omega (arith, ints, low); high = omega (arith, ints, high) }

-- the tables of all heads of IMA ADPCM, of blocks of at most 1,024 bytes
small-tables : (align : ℕ) → align ≤ 1024 → 89 * (89 * samples_in align) < 2 ^ 31
small-tables align high = omega (arith, high)

pub brr_is_codec : IsCodec brr_codec
brr_is_codec = record { laws = brr_is_machine; boxed = brr_is_boxed; filed = brr_filed; room = omega arith; sounds = twice-fits }

pub spu_is_codec : IsCodec spu_codec
spu_is_codec = record { laws = spu_is_machine; boxed = spu_is_boxed; filed = spu_filed; room = omega arith; sounds = once-fits }

pub ima_is_codec : (align : ℕ) → IsTrue (is_align align) → IsCodec (ima_codec align)
ima_is_codec align fits = record {
  laws = lawful align fits;
  boxed = ima_is_boxed (samples_in align);
  filed = ima_filed (samples_in align);
  room = small-tables align (align_high align fits);
  sounds = own-fits;
}

pub brr_is_stored : IsStoredCodec brr_rules brr_format
brr_is_stored = record { codec = brr_is_codec; stored = brr_stored; kind_is = refl }

pub spu_is_stored : IsStoredCodec spu_rules spu_format
spu_is_stored = record { codec = spu_is_codec; stored = spu_stored; kind_is = refl }

pub ima_is_stored : (align : ℕ) → IsTrue (is_align align) → IsStoredCodec (ima_rules (samples_in align)) (ima_format align)
ima_is_stored align fits = record { codec = ima_is_codec align fits; stored = ima_stored align fits; kind_is = refl }

pub brr_is_flagged : IsFlagged brr_rules brr_format
brr_is_flagged = record { kept = brr_is_stored; ends = refl; anew = λ loop_block. refl }

pub spu_is_flagged : IsFlagged spu_rules spu_format
spu_is_flagged = record { kept = spu_is_stored; ends = refl; anew = λ loop_block. refl }

-- the codec of each kind is one
pub is_codec_for : (kind : Kind) (block : ℕ) → IsTrue (is_align block) → IsCodec (codec_for kind block)
is_codec_for Brr block fits = brr_is_codec
is_codec_for Spu block fits = spu_is_codec
is_codec_for Ima block fits = ima_is_codec block fits
