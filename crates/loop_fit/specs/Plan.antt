-- The numbers of a fit, or the first refusal.
use Rattle.std.specs.Prelude.{ℕ, ◌+◌, ◌*◌, ◌/◌, ◌%◌, ◌==◌, ◌||◌, nat_lt, if◌then◌else◌, Option, Some, None, Result, Ok, Err}
use Rattle.std.specs.Int.{div_ceil}
use Rattle.adpcm_nums.specs.Outcome.{◌>>=◌}
use Rattle.adpcm_nums.specs.declared.loop_at.LoopAt.{LoopAt}
use Rattle.loop_fit.specs.declared.rule.FitRule.{FitRule}
use Rattle.loop_fit.specs.declared.rule.Length.{Length}
use Rattle.loop_fit.specs.declared.rule.Length.TheVariants.{Exact, Unroll}
use Rattle.loop_fit.specs.declared.fault.FitFault.{FitFault}
use Rattle.loop_fit.specs.declared.fault.FitFault.TheVariants.{LoopLength, TooLong}
use Rattle.loop_fit.specs.declared.plan.Plan.{Plan}
use Rattle.loop_fit.specs.Align.{loop_length, loop_target, front_of, unroll_of}

-- how often the loop stands among the targets
unfoldable pub rounds_of : Length → ℕ → ℕ → Result ℕ FitFault
rounds_of Exact block len = if len % block == 0 then Ok 1 else Err (LoopLength len block)
rounds_of Unroll block len = Ok (unroll_of block len)

-- so many blocks, unless they or their targets are too many
unfoldable pub sized : ℕ → ℕ → Result ℕ FitFault
sized block blocks = if nat_lt 4096 blocks || nat_lt 262144 (blocks * block) then Err (TooLong blocks) else Ok blocks

-- a sound of so many frames and the loop that has to lie on whole blocks: the frames after its end are dropped
unfoldable pub plan_of : ℕ → Option LoopAt → FitRule → Result Plan FitFault
plan_of frames None rule = do
  blocks ← sized rule.block (div_ceil frames rule.block)
  Ok (record { front = 0; unroll = 1; blocks = blocks; loop_block = None })
plan_of frames (Some at) rule = do
  unroll ← rounds_of rule.length rule.block (loop_length at)
  blocks ← sized rule.block ((loop_target rule.block at + unroll * loop_length at) / rule.block)
  Ok (record { front = front_of rule.start rule.block at; unroll = unroll; blocks = blocks; loop_block = Some (loop_target rule.block at / rule.block) })
