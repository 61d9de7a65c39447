-- What the blocks of a bank are: their decoder with its floors, and the bytes that are stored of them.
use Rattle.std.specs.Prelude.{◌≡◌, ◌<◌, ◌*◌, ◌^◌, IsTrue, true, pos, ◌*ℤ◌, ℕ, Bool, List, Option}
use Rattle.adpcm_nums.specs.Sample.{IsSample}
use Rattle.machine_core.specs.declared.state.State.{State}
use Rattle.machine_core.specs.Blocks.{Blocks, must_forget, is_first}
use Rattle.machine_core.specs.Rules.{Rules, IsMachine}
use Rattle.machine_core.specs.Boxed.{IsBoxed}
use Rattle.bound_cert.specs.Filed.{IsFiled}
use Rattle.block_flags.specs.Flags.{tells_end}
use Rattle.player_model.specs.Format.{Format}
use Rattle.player_model.specs.FormatLaws.{IsStoredFormat}
use Rattle.player_model.specs.Stored.{stored_blocks}
use Rattle.loop_fit.specs.declared.fitted.Fitted.{Fitted}

pub record Codec : Type 0 where
  pub rules : Rules
  -- a list, how many blocks it has, and the first block of its loop: the bytes that are stored of it
  pub bytes : Blocks → ℕ → Option ℕ → List ℕ

-- the codec of these parts
abbrev pub codec_of : Rules → (Blocks → ℕ → Option ℕ → List ℕ) → Codec
codec_of rules bytes = record { rules = rules; bytes = bytes }

-- the blocks of a fitted sound that must forget what was played before them
abbrev pub fixed_in : Codec → Fitted → ℕ → Bool
fixed_in c fitted = must_forget c.rules.kind fitted.loop_block

-- what every codec keeps
pub record IsCodec (c : Codec) : Type 0 where
  pub laws : IsMachine c.rules
  -- its boxes, cells and lanes are those of certificates
  pub boxed : IsBoxed c.rules
  pub filed : IsFiled c.rules
  -- its tables of floors are small
  pub room : c.rules.decoder.heads * c.rules.floor_len < 2 ^ 31
  -- what is heard is a sample of 16 bits
  pub sounds : (at : State) → IsTrue (c.rules.decoder.is_state at) → IsSample (pos c.rules.decoder.scale *ℤ at.a)

-- the codec of blocks that are stored in a format
abbrev pub stored_codec : Rules → Format → Codec
stored_codec rules format = codec_of rules (λ list blocks loop_block. stored_blocks rules.decoder format list blocks loop_block)

-- what it keeps besides
pub record IsStoredCodec (rules : Rules) (format : Format) : Type 0 where
  pub codec : IsCodec (stored_codec rules format)
  pub stored : IsStoredFormat rules.decoder format
  pub kind_is : format.kind ≡ rules.kind

-- and where its blocks have flags
pub record IsFlagged (rules : Rules) (format : Format) : Type 0 where
  pub kept : IsStoredCodec rules format
  -- its blocks tell where a sample ends
  pub ends : tells_end format.kind ≡ true
  -- the first block of a sample and the first of its loop must forget, and no others
  pub anew : (loop_block : Option ℕ) → must_forget rules.kind loop_block ≡ is_first loop_block
