-- What it is that a sample of a bank is given back by `decompile`.
use Rattle.std.specs.Prelude.{◌≡◌, ℕ, List}
use Rattle.machine_core.specs.declared.state.Kind.{Kind}
use Rattle.machine_core.specs.declared.state.Kind.TheVariants.{Brr, Spu, Ima}
use Rattle.loop_fit.specs.declared.fitted.Fitted.{Fitted}
use Rattle.loop_fit.specs.Fit.{IsWhole}
use Rattle.bank_kinds.specs.Kinds.{codec_for}
use Rattle.bank_kinds.specs.Replay.{SampleReplays}
use Rattle.manifest_reader.specs.Stored.{vag_name_of, ima_name_of}
use Rattle.decompile_core.specs.declared.recovered.Recovered.{Recovered}
use Rattle.decompile_core.specs.Recovered.{first_settles}
use Rattle.tool_decompile.specs.EntryFiles.{ReadsAs}

-- the file of a bank in which a sample stands
abbrev pub file_with : Kind → List ℕ → List ℕ → List ℕ
file_with Brr bank name = bank
file_with Spu bank name = vag_name_of bank name
file_with Ima bank name = ima_name_of bank name

-- and which of that file's entries sample j is
abbrev pub place_in : Kind → ℕ → ℕ
place_in Brr j = j
place_in Spu j = 0
place_in Ima j = 0

-- an entry is just what the file of a first pass says: its samples, rate and loop; it settles at playing 0, or has no loop
pub record IsFirstPass (first : List ℕ) (rate : ℕ) (entry : Recovered) : Type 0 where
  pub rate_is : entry.rate ≡ rate
  pub sound : ReadsAs first entry.rate entry.samples entry.loop_at
  pub settles : entry.settles ≡ first_settles entry.loop_at

-- sample j of a bank was compiled: it replays, and its fitted sound is some whole blocks and not too many
pub record IsCompiledAt (kind : Kind) (block : ℕ) (content : List ℕ → List ℕ) (bank : List ℕ) (j : ℕ) : Type 0 where
  pub name : List ℕ
  pub rate : ℕ
  pub fitted : Fitted
  pub error : ℕ
  pub replays : SampleReplays kind block content bank name j rate fitted error
  pub whole : IsWhole (codec_for kind block).rules.decoder.samples fitted
