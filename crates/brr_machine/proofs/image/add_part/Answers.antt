use Rattle.std.proofs.Common.{arith, w32}
use mir.Val.{SFits}
use Rattle.std.proofs.lemmas.Int.{ints, clamps, to_z-of_z}
use Rattle.brr_machine.proofs.PartAdding.{part-added, part-missed}
use Rattle.brr_machine.proofs.image.add_part.Goals as goal

pub returns-then-lo-hi-clause-added : goal.returns-then-lo-hi-clause-added
returns-then-lo-hi-clause-added c =
    let by : SFits w32 c.args.by = c.ranges.by in
    let low : SFits w32 c.args.lo = c.ranges.lo in
    let high : SFits w32 c.args.hi = c.ranges.hi in
    let target : SFits w32 c.args.target = c.ranges.target in
    let a = c.max-lo.ensures.value in
    let b = c.min-hi.ensures.value in
    part-added c.args.pieces.now c.push.new.self c.output_piece.result c.args.by c.args.lo c.args.hi _ c.args.last c.args.target _ c.push.ensures c.output_piece.ensures
    (omega (arith, ints, clamps, a)) (omega (arith, ints, clamps, b)) (omega (arith, ints))

pub returns-else-lo-hi-clause-added : goal.returns-else-lo-hi-clause-added
returns-else-lo-hi-clause-added c =
    let by : SFits w32 c.args.by = c.ranges.by in
    let low : SFits w32 c.args.lo = c.ranges.lo in
    let high : SFits w32 c.args.hi = c.ranges.hi in
    let a = c.max-lo.ensures.value in
    let b = c.min-hi.ensures.value in
    part-missed c.args.pieces.now c.args.by c.args.lo c.args.hi c.max-lo.result c.min-hi.result c.args.last c.args.target
    (omega (arith, ints, clamps, a)) (omega (arith, ints, clamps, b)) (grind (arith, ints, to_z-of_z))
