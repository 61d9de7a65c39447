use Rattle.std.proofs.Common.{arith, w32, rules, ◌<◌}
use Rattle.std.proofs.lemmas.Int.{to_z-of_z}
use mir.Val.{SFits}
use Rattle.open_cells.proofs.Boxes.{rowed-more, row-from}
use Rattle.open_cells.proofs.corners.add_row.Goals as goal
use Rattle.box_layers.specs.Looking.{span_count}

pub returns-in-Err-clause-from : goal.returns-in-Err-clause-from
returns-in-Err-clause-from c =
    let fa : SFits w32 c.args.a = c.ranges.a in let fl : SFits w32 c.args.low = c.ranges.low in let fh : SFits w32 c.args.high = c.ranges.high in
    let fb : SFits w32 c.near_at.result = search rules in
    let i = simp to_z-of_z at c.loop-y.invariant in
    let n = simp to_z-of_z at c.near_at.ensures in
    let g = simp to_z-of_z at c.add.ensures.from in
    let s = simp to_z-of_z at c.span-y-end.ensures in
    let t = c.loop-y-test.true in
    let lt : c.loop-y.y < span_count c.args.low c.args.high = omega arith in
    row-from _ _ _ c.args.lane c.args.a c.args.low c.args.high c.args.cost c.loop-y.y c.near_at.result c.requires lt n i.from g

pub loop-y-preserved : goal.loop-y-preserved
loop-y-preserved c =
    let fa : SFits w32 c.args.a = c.ranges.a in let fl : SFits w32 c.args.low = c.ranges.low in let fh : SFits w32 c.args.high = c.ranges.high in
    let fb : SFits w32 c.near_at.result = search rules in
    let i = simp to_z-of_z at c.loop-y.invariant in
    let n = simp to_z-of_z at c.near_at.ensures in
    let g = simp to_z-of_z at c.add.ensures.from in
    let a = simp to_z-of_z at c.in-Ok.ensures.added in
    let s = simp to_z-of_z at c.span-y-end.ensures in
    let t = c.loop-y-test.true in
    let lt : c.loop-y.y < span_count c.args.low c.args.high = omega arith in
    simp to_z-of_z (rowed-more _ _ _ c.args.lane c.args.a c.args.low c.args.high c.args.cost c.loop-y.y c.near_at.result c.requires lt n i a g)

pub returns-clause-from : goal.returns-clause-from
returns-clause-from c =
    let fa : SFits w32 c.args.a = c.ranges.a in let fl : SFits w32 c.args.low = c.ranges.low in let fh : SFits w32 c.args.high = c.ranges.high in
    (simp to_z-of_z at c.loop-y.invariant).from
