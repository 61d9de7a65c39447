use Rattle.std.proofs.Common.{w64}
use Rattle.std.specs.Prelude.{pos, negsuc}
use mir.Val.{SFits}
use Rattle.std.proofs.lemmas.Int.{to_z-of_z}
use Rattle.window_floor.specs.Numbers.{row_of}
use Rattle.window_floor.specs.Quantizer.{IsLevelMiss}
use Rattle.window_floor.proofs.LevelLaws.{plain-is, wrapped-is}
use Rattle.window_floor.proofs.levels.at_quantizer.Goals as goal

pub returns-then-w-clause-value : goal.returns-then-w-clause-value
returns-then-w-clause-value c =
    let f : SFits w64 c.args.rho = c.ranges.rho in
    let miss : IsLevelMiss (row_of c.args.w) c.args.rho c.args.quantizer.step c.args.quantizer.low c.args.quantizer.high (negsuc 0) (pos 1) c.with_upper.result = simp to_z-of_z at c.with_upper.ensures.miss in
    λ samples levels. wrapped-is (row_of c.args.w) c.args.rho c.args.quantizer.step c.args.quantizer.low c.args.quantizer.high samples c.with_upper.result c.if-w.true levels miss

pub returns-else-w-clause-value : goal.returns-else-w-clause-value
returns-else-w-clause-value c =
    let f : SFits w64 c.args.rho = c.ranges.rho in
    let miss : IsLevelMiss (row_of c.args.w) c.args.rho c.args.quantizer.step c.args.quantizer.low c.args.quantizer.high (pos 0) (pos 0) c.at_copy-plain.result = simp to_z-of_z at c.at_copy-plain.ensures.miss in
    λ samples levels. plain-is (row_of c.args.w) c.args.rho c.args.quantizer.step c.args.quantizer.low c.args.quantizer.high samples c.at_copy-plain.result c.if-w.false levels miss
