-- A sound that was fitted to blocks of a codec, and what a list of blocks comes to for it: the stored bytes, the first pass, the error.
use Rattle.std.specs.Prelude.{◌≡◌, ◌<◌, ◌≤◌, ℕ, ◌*◌, ℤ, List, Option, Some, None, IfSome}
use Rattle.adpcm_nums.specs.declared.loop_at.LoopAt.{LoopAt}
use Rattle.machine_core.specs.declared.state.Kind.{Kind}
use Rattle.machine_core.specs.declared.state.Kind.TheVariants.{Brr, Spu, Ima}
use Rattle.machine_core.specs.Blocks.{Blocks}
use Rattle.machine_core.specs.Sums.{sum_of}
use Rattle.loop_fit.specs.declared.fitted.Fitted.{Fitted}
use Rattle.loop_fit.specs.Fit.{IsWhole, points_of}
use Rattle.report_text.specs.declared.report.LoopShown.{LoopShown}
use Rattle.report_text.specs.declared.report.LoopShown.TheVariants.{NoLoop, Block, Frames}
use Rattle.bank_kinds.specs.Passes.{outputs_of}
use Rattle.bank_kinds.specs.Codec.{Codec}

-- how many outputs count as played: those of all blocks, or in IMA ADPCM as many as the source has frames
abbrev pub played_in : Kind → ℕ → Fitted → ℕ
played_in Brr samples fitted = fitted.blocks * samples
played_in Spu samples fitted = fitted.blocks * samples
played_in Ima samples fitted = fitted.frames

abbrev pub played_of : Codec → Fitted → ℕ
played_of c fitted = played_in c.rules.kind c.rules.decoder.samples fitted

-- a loop lies on whole blocks, or in IMA ADPCM at its frames
abbrev pub IsLooped : Kind → Fitted → Type 0
IsLooped Brr fitted = fitted.loop_frames ≡ None
IsLooped Spu fitted = fitted.loop_frames ≡ None
IsLooped Ima fitted = fitted.loop_block ≡ None

-- points that stand among so many samples
abbrev pub AreWithin : ℕ → Option LoopAt → Type 0
AreWithin count points = IfSome points (λ at. (at.start ≤ at.end) × (at.end < count))

-- a sound fitted to blocks of a codec
pub record IsFit (c : Codec) (fitted : Fitted) : Type 0 where
  pub whole : IsWhole c.rules.decoder.samples fitted
  pub looped : IsLooped c.rules.kind fitted
  -- what is played stands in its blocks, and the loop in what is played
  pub played : played_of c fitted ≤ fitted.blocks * c.rules.decoder.samples
  pub points : AreWithin (played_of c fitted) (points_of c.rules.decoder.samples fitted)

-- the stored bytes
abbrev pub bytes_of : Codec → Fitted → Blocks → List ℕ
bytes_of c fitted list = c.bytes list fitted.blocks fitted.loop_block

-- the stored first pass: the outputs that are played, as they are compared with the source
abbrev pub first_of : Codec → Fitted → Blocks → List ℤ
first_of c fitted list = outputs_of c.rules.decoder list (played_of c fitted)

-- the exact squared error, padding included
abbrev pub error_of : Codec → Fitted → Blocks → ℕ
error_of c fitted list = sum_of c.rules.decoder list fitted.targets fitted.blocks

-- how its loop is told: by the loop block, or by its frames
abbrev pub loop_shown : Option ℕ → Option LoopAt → LoopShown
loop_shown (Some block) frames = Block block
loop_shown None (Some at) = Frames at
loop_shown None None = NoLoop
