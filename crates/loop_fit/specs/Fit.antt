-- A sound and its loop, fitted to whole blocks.
use Rattle.std.specs.Prelude.{◌≡◌, ℕ, ◌-◌, ◌*◌, ◌<◌, ◌≤◌, ◌==◌, nat_lt, if◌then◌else◌, ℤ, pos, List, length, get_or, map, Option, Some, None, IfSome, Result, Ok, Err}
use Rattle.std.specs.List.{range_with_len}
use Rattle.adpcm_nums.specs.Outcome.{◌>>=◌}
use Rattle.adpcm_nums.specs.Round.{round_of}
use Rattle.adpcm_nums.specs.Sample.{AreSamples}
use Rattle.adpcm_nums.specs.declared.loop_at.LoopAt.{LoopAt}
use Rattle.loop_fit.specs.declared.rule.FitRule.{FitRule}
use Rattle.loop_fit.specs.declared.fault.FitFault.{FitFault}
use Rattle.loop_fit.specs.declared.fault.FitFault.TheVariants.{EmptySample}
use Rattle.loop_fit.specs.declared.fitted.Fitted.{Fitted}
use Rattle.loop_fit.specs.declared.plan.Plan.{Plan}
use Rattle.loop_fit.specs.Align.{block_loop, frame_loop}
use Rattle.loop_fit.specs.Plan.{plan_of}

-- a sound that so many zeros come before
abbrev pub delayed : ℕ → (ℕ → ℤ) → ℕ → ℤ
delayed front sound i = if nat_lt i front then pos 0 else sound (i - front)

-- target i: the sound going round the loop that lies on whole blocks, after the zeros in front
abbrev pub target_of : List ℤ → Option LoopAt → ℕ → ℕ → ℤ
target_of samples looped front i = delayed front (round_of samples looped) i

-- the first so many targets
abbrev pub targets_of : List ℤ → Option LoopAt → ℕ → ℕ → List ℤ
targets_of samples looped front count = map (target_of samples looped front) (range_with_len 0 count)

-- what is handed on of a plan and its targets
abbrev pub fitted_of : List ℤ → Option LoopAt → FitRule → Plan → Fitted
fitted_of samples at rule plan = record {
  targets = targets_of samples (block_loop rule.kind at) plan.front (plan.blocks * rule.block);
  blocks = plan.blocks;
  loop_block = plan.loop_block;
  front = plan.front;
  unroll = plan.unroll;
  frames = length samples;
  loop_frames = frame_loop rule.kind at;
}

-- the fit, or the first refusal
unfoldable pub fit_of : List ℤ → Option LoopAt → FitRule → Result Fitted FitFault
fit_of samples at rule =
    if length samples == 0 then Err EmptySample
    else (do
      plan ← plan_of (length samples) (block_loop rule.kind at) rule
      Ok (fitted_of samples at rule plan))

-- the loop of the targets: from the loop block to the last block's end, or at the source's frames
abbrev pub points_in : ℕ → ℕ → Option ℕ → Option LoopAt → Option LoopAt
points_in block blocks None frames = frames
points_in block blocks (Some loop_block) frames = Some (record { start = loop_block * block; end = blocks * block - 1 })

-- the loop of a fit's targets
abbrev pub points_of : ℕ → Fitted → Option LoopAt
points_of block fitted = points_in block fitted.blocks fitted.loop_block fitted.loop_frames

-- played with their loop for ever, the targets are the sound going round its own, after the zeros in front
abbrev pub GoesRound : List ℤ → Option LoopAt → FitRule → Fitted → Type 0
GoesRound samples at rule fitted = (i : ℕ) → round_of fitted.targets (points_of rule.block fitted) i ≡ delayed fitted.front (round_of samples at) i

-- each target is that of its place
abbrev pub HasTargets : List ℤ → Option LoopAt → FitRule → Fitted → Type 0
HasTargets samples at rule fitted = (i : ℕ) → i < length fitted.targets → get_or fitted.targets i (pos 0) ≡ target_of samples (block_loop rule.kind at) fitted.front i

-- a fit is some whole blocks of samples, and not too many
pub record IsWhole (block : ℕ) (fitted : Fitted) : Type 0 where
  pub some : 0 < fitted.blocks
  pub few : fitted.blocks ≤ 4096
  pub count : length fitted.targets ≡ fitted.blocks * block
  pub small : length fitted.targets ≤ 262144
  pub range : AreSamples fitted.targets
  pub loop_block : IfSome fitted.loop_block (λ l. l < fitted.blocks)
