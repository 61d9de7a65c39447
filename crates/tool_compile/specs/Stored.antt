-- What is promised of a sample that was stored and told: all of it is said of the stored files, the source and the report's numbers.
use Rattle.std.specs.Prelude.{◌≡◌, ◌≤◌, ℕ, List, [], ◌∷◌}
use Rattle.manifest_reader.specs.Meaning.{Content}
use Rattle.manifest_reader.specs.Stored.{cert_name_of}
use Rattle.report_text.specs.declared.report.SampleReport.{SampleReport}
use Rattle.bank_kinds.specs.Kinds.{codec_for}
use Rattle.bank_kinds.specs.Replay.{SampleReplays}
use Rattle.bank_kinds.specs.Bound.{IsBound}
use Rattle.bank_kinds.specs.Certified.{IsCertified}
use Rattle.bank_compile.specs.Sample.{beams_error}
use Rattle.tool_files.specs.declared.source.Source.{Source}

-- sample j of a manifest's bank, in files that hold `content` by name, is what a report says of a source
pub record IsStored (m : Content) (content : List ℕ → List ℕ) (j : ℕ) (source : Source) (report : SampleReport) : Type 0 where
  -- the player gives the first pass and then its loop for ever, and the told error is the exact one of the stored blocks
  pub replays : SampleReplays m.kind m.block content m.bank source.name j source.rate source.fitted report.error
  -- the stored certificate shows the told bound: its segments are those of the source, their bounds come to it, and their levels are told
  pub certified : IsCertified (codec_for m.kind m.block) (content (cert_name_of m.bank source.name)) source.fitted report.bound report.levels
  -- no list of blocks that may be stored for the source has an error below the told bound
  pub bound : IsBound (codec_for m.kind m.block) source.fitted report.bound
  -- so the told gap is not negative
  pub gap : report.bound ≤ report.error
  -- and where it is 0, no list of blocks that may be stored has a smaller error than the stored one
  pub optimal : report.error ≡ report.bound → IsBound (codec_for m.kind m.block) source.fitted report.error
  -- the told error is at most the sum of the errors of the manifest's beams, one for each segment
  pub near_beam : report.error ≤ beams_error (codec_for m.kind m.block) m.beam source.fitted
  -- and where every segment was searched state by state, it is the told bound
  pub whole : (n : ℕ) → report.levels ≡ n ∷ 0 ∷ 0 ∷ 0 ∷ [] → report.bound ≡ report.error
