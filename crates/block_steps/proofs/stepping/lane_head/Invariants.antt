use Rattle.std.proofs.Common.{◌≡◌, ℕ, ◌<◌, false}
use Rattle.machine_core.specs.Blocks.{first_only}
use Rattle.machine_core.specs.Floors.{may_take}
use Rattle.block_steps.proofs.stepping.lane_head.Given as goal

abbrev pub invariant-loop-h : goal.invariant-loop-h
invariant-loop-h g l = (k : ℕ) → k < l.h → may_take (g.M.Machine.rules l.machine) first_only l.at.index l.lane k ≡ false
