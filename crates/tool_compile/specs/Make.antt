-- The command `make`: the test sound of a number, compiled in the three formats and told, and stored in none.
use Rattle.std.specs.Prelude.{◌≡◌, ◌≤◌, false, ℕ, List, [], ◌∷◌, Some, Ok, codes}
use Rattle.adpcm_nums.specs.Outcome.{Tells}
use Rattle.host_files.specs.Outside.{World, grown, raised}
use Rattle.host_files.specs.declared.named_file.NamedFile.{NamedFile}
use Rattle.machine_core.specs.declared.state.Kind.{Kind}
use Rattle.machine_core.specs.declared.state.Kind.TheVariants.{Brr, Spu, Ima}
use Rattle.loop_fit.specs.declared.rule.FitRule.{FitRule}
use Rattle.loop_fit.specs.declared.rule.Length.TheVariants.{Unroll}
use Rattle.loop_fit.specs.declared.rule.Start.TheVariants.{Front}
use Rattle.loop_fit.specs.declared.fitted.Fitted.{Fitted}
use Rattle.loop_fit.specs.Fit.{fit_of}
use Rattle.sample_gen.specs.Walk.{frames_of, second_half}
use Rattle.report_text.specs.declared.report.LoopShown.{LoopShown}
use Rattle.report_text.specs.declared.report.LoopShown.TheVariants.{Block, Frames}
use Rattle.report_text.specs.declared.report.SampleReport.{SampleReport}
use Rattle.bank_kinds.specs.Kinds.{codec_for}
use Rattle.bank_kinds.specs.Bound.{IsBound}
use Rattle.bank_compile.specs.declared.sample.SampleOut.{SampleOut}
use Rattle.manifest_reader.specs.declared.effort.Effort.{Effort}
use Rattle.bank_compile.specs.Sample.{IsCompiled, IsReached}
use Rattle.bank_compile.specs.Told.{report_text}
use Rattle.command_faults.specs.declared.status.Status.{Status}
use Rattle.command_faults.specs.declared.status.Status.TheVariants.{Done, Memory}
use Rattle.command_plan.specs.Ending.{is_device}
use Rattle.command_plan.specs.Read.{as_reading, written_under}
use Rattle.command_plan.specs.Reading.{Reading}

-- how a test sound is brought to blocks: its loop is repeated to whole blocks, zeros come before it, and a block of IMA ADPCM has 256 bytes
abbrev pub made_rule : Kind → FitRule
made_rule kind = record { kind = kind; block = (codec_for kind 256).rules.decoder.samples; length = Unroll; start = Front }

-- how it is searched
abbrev pub made_effort : Effort
made_effort = record { beam = 4; paths = 1; budget = 20000 }

-- how many blocks that takes, whatever the number
abbrev pub made_blocks : Kind → ℕ
made_blocks Brr = 64
made_blocks Spu = 147
made_blocks Ima = 3

-- and how its loop is told
abbrev pub made_shown : Kind → LoopShown
made_shown Brr = Block 32
made_shown Spu = Block 19
made_shown Ima = Frames second_half

-- the test sound of a number was compiled in a format, under a name
pub record IsMadeIn (number : ℕ) (kind : Kind) (name : List ℕ) (out : SampleOut) : Type 0 where
  pub fitted : Fitted
  pub fits : fit_of (frames_of number) (Some second_half) (made_rule kind) ≡ Ok fitted
  pub compiled : IsCompiled (codec_for kind 256) made_effort name 32000 fitted out
  -- a list of blocks that may be stored has just the told error, and none has an error below the told bound
  pub reached : IsReached (codec_for kind 256) fitted out.report.error
  pub bound : IsBound (codec_for kind 256) fitted out.report.bound
  pub gap : out.report.bound ≤ out.report.error

-- it was compiled in each format
pub record AreMade (number : ℕ) (brr spu ima : SampleOut) : Type 0 where
  pub brr_made : IsMadeIn number Brr (codes "brr") brr
  pub spu_made : IsMadeIn number Spu (codes "spu") spu
  pub ima_made : IsMadeIn number Ima (codes "ima") ima

-- nothing is stored, and that is told
pub record IsMade (number : ℕ) (writes : List NamedFile) (line : List ℕ) : Type 0 where
  pub none : writes ≡ []
  pub brr : SampleOut
  pub spu : SampleOut
  pub ima : SampleOut
  pub made : AreMade number brr spu ima
  pub told : line ≡ report_text (brr ∷ spu ∷ ima ∷ []) 0

-- nothing is read, and one line is said
abbrev pub make_course : Reading
make_course = as_reading (written_under [])

-- what is told of the test sound of a number in a format
pub record IsToldIn (number : ℕ) (kind : Kind) (name : List ℕ) (report : SampleReport) : Type 0 where
  pub fitted : Fitted
  pub fits : fit_of (frames_of number) (Some second_half) (made_rule kind) ≡ Ok fitted
  pub named : report.name ≡ name
  pub blocks : report.blocks ≡ made_blocks kind
  pub shown : report.shown ≡ made_shown kind
  -- the told error is just that of a list of blocks that may be stored
  pub reached : IsReached (codec_for kind 256) fitted report.error
  -- no list of blocks that may be stored has an error below the told bound
  pub bound : IsBound (codec_for kind 256) fitted report.bound
  pub gap : report.bound ≤ report.error
  -- so where the two are equal, none has a smaller error
  pub optimal : report.error ≡ report.bound → IsBound (codec_for kind 256) fitted report.error

-- what `make` has done where it ends well
pub record HasMade (number : ℕ) (a b : World) : Type 0 where
  pub brr : SampleOut
  pub spu : SampleOut
  pub ima : SampleOut
  pub brr_told : IsToldIn number Brr (codes "brr") brr.report
  pub spu_told : IsToldIn number Spu (codes "spu") spu.report
  pub ima_told : IsToldIn number Ima (codes "ima") ima.report
  -- exactly the report was said, in one call
  pub said : b.said ≡ grown a.said (report_text (brr ∷ spu ∷ ima ∷ []) 0)
  pub calls : b.calls ≡ raised 1 a.calls

-- what `make` answers, in its own words: r is the answer, from a to b
pub record AnswersMake (number : ℕ) (a b : World) (r : Status) : Type 0 where
  -- whatever happens, the files are as they were
  pub files : b.files ≡ a.files
  pub done : r ≡ Done → HasMade number a b
  -- where the host does not fail, all is done, unless there was no memory
  pub outcome : is_device r ≡ false → Tells Memory r Done
