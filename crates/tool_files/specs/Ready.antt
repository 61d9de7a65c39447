-- What every source keeps that was read and fitted to blocks of a kind.
use Rattle.std.specs.Prelude.{◌≡◌, ◌≤◌, ℕ, length}
use Rattle.machine_core.specs.declared.state.Kind.{Kind}
use Rattle.loop_fit.specs.declared.rule.FitRule.{FitRule}
use Rattle.bank_kinds.specs.Kinds.{codec_for}
use Rattle.bank_kinds.specs.Fits.{IsFit}
use Rattle.tool_files.specs.declared.source.Source.{Source}

-- a source that can be compiled
pub record IsReady (kind : Kind) (block : ℕ) (s : Source) : Type 0 where
  pub short : length s.name ≤ 16
  pub some_rate : 1 ≤ s.rate
  pub high_rate : s.rate ≤ 1000000
  pub fit : IsFit (codec_for kind block) s.fitted

-- the same of a source that a rule has fitted: to blocks of so many bytes as have the rule's samples
abbrev pub IsReadyBy : FitRule → Source → Type 0
IsReadyBy rule s = (block : ℕ) → rule.block ≡ (codec_for rule.kind block).rules.decoder.samples → IsReady rule.kind block s
