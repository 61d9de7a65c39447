use Rattle.std.proofs.Common.{rules, arith, pos, negsuc, ◌*ℤ◌, ◌≤ℤ◌, w32}
use mir.Val.{SFits}
use Rattle.std.proofs.lemmas.Int.{ints, to_z-of_z}
use Rattle.machine_core.proofs.CellSizes.{first_low, first_high}
use Rattle.machine_core.proofs.cells.run_first.Goals as goal

pub returns-clause-high : goal.returns-clause-high
returns-clause-high c =
    let run : SFits w32 c.args.run = c.ranges.run in
    let width : SFits w32 c.width.result = search rules in
    let high : (c.width.result *ℤ c.args.run) ≤ℤ pos 8388608 = rw c.width.ensures.value (first_high c.args.level c.args.run c.requires.level c.requires.run.high) in
    let low : negsuc 8388607 ≤ℤ (c.width.result *ℤ c.args.run) = rw c.width.ensures.value (first_low c.args.level c.args.run c.requires.level c.requires.run.low) in
    simp to_z-of_z (omega (arith, ints, high, low))
