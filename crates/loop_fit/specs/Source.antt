-- What may be fitted: the condition on the sound, its loop and the rule.
use Rattle.std.specs.Prelude.{◌≡◌, ℕ, ◌+◌, ◌-◌, ◌*◌, ◌%◌, ◌^◌, ◌<◌, ◌≤◌, ℤ, List, length, Option, IfSome}
use Rattle.adpcm_nums.specs.declared.loop_at.LoopAt.{LoopAt}
use Rattle.adpcm_nums.specs.Sample.{AreSamples}
use Rattle.machine_core.specs.declared.state.Kind.{Kind}
use Rattle.machine_core.specs.declared.state.Kind.TheVariants.{Brr, Spu, Ima}
use Rattle.loop_fit.specs.declared.rule.FitRule.{FitRule}

-- the loop lies in a sound of so many frames
pub record IsLoopIn (frames : ℕ) (at : LoopAt) : Type 0 where
  pub ordered : at.start ≤ at.end
  pub within : at.end < frames

-- an IMA block of so many bytes has so many samples
pub record IsImaBlock (bytes samples : ℕ) : Type 0 where
  pub words : bytes % 4 ≡ 0
  pub at_least : 8 ≤ bytes
  pub at_most : bytes ≤ 1024
  pub samples_are : samples ≡ 2 * (bytes - 4) + 1

-- the kind has blocks of so many samples
abbrev pub IsBlockOf : Kind → ℕ → Type 0
IsBlockOf Brr samples = samples ≡ 16
IsBlockOf Spu samples = samples ≡ 28
IsBlockOf Ima samples = (bytes : ℕ) × IsImaBlock bytes samples

-- a sound and its loop that a rule can be asked to fit
pub record IsSource (samples : List ℤ) (at : Option LoopAt) (rule : FitRule) : Type 0 where
  pub count : length samples < 2 ^ 32
  pub range : AreSamples samples
  pub loop : IfSome at (IsLoopIn (length samples))
  pub block : IsBlockOf rule.kind rule.block
