use Rattle.std.proofs.Common.{arith, w32, rules, ◌≤◌, ◌<◌}
use Rattle.std.proofs.lemmas.Int.{to_z-of_z}
use mir.Val.{SFits}
use Rattle.open_cells.proofs.Boxes.{boxed-more, box-from, boxed-all}
use Rattle.open_cells.proofs.corners.add_box.Goals as goal
use Rattle.box_layers.specs.Looking.{span_count}

pub returns-in-Err-clause-from : goal.returns-in-Err-clause-from
returns-in-Err-clause-from c =
    let la : SFits w32 c.args.low.a = search rules in let ha : SFits w32 c.args.high.a = search rules in
    let lb : SFits w32 c.args.low.b = search rules in let hb : SFits w32 c.args.high.b = search rules in
    let fa : SFits w32 c.near_at-a.result = search rules in
    let n = simp to_z-of_z at c.near_at-a.ensures in
    let g = simp to_z-of_z at c.add_row.ensures.from in
    let s = simp to_z-of_z at c.span-x-end.ensures in
    let t = c.loop-x-test.true in
    let lt : c.loop-x.x < span_count c.args.low.a c.args.high.a = omega arith in
    box-from _ _ _ c.args.lane c.args.low c.args.high c.args.cost c.loop-x.x c.near_at-a.result c.requires.a_order lt n c.loop-x.invariant.from g

pub loop-x-preserved : goal.loop-x-preserved
loop-x-preserved c =
    let la : SFits w32 c.args.low.a = search rules in let ha : SFits w32 c.args.high.a = search rules in
    let lb : SFits w32 c.args.low.b = search rules in let hb : SFits w32 c.args.high.b = search rules in
    let fa : SFits w32 c.near_at-a.result = search rules in
    let n = simp to_z-of_z at c.near_at-a.ensures in
    let g = simp to_z-of_z at c.add_row.ensures.from in
    let k = simp to_z-of_z at c.in-Ok.ensures.covers in
    let s = simp to_z-of_z at c.span-x-end.ensures in
    let t = c.loop-x-test.true in
    let lt : c.loop-x.x < span_count c.args.low.a c.args.high.a = omega arith in
    boxed-more _ _ _ c.args.lane c.args.low c.args.high c.args.cost c.loop-x.x c.near_at-a.result c.requires.a_order lt n c.loop-x.invariant c.in-Ok.ensures.kept k g

pub returns-clause-covers : goal.returns-clause-covers
returns-clause-covers c =
    let la : SFits w32 c.args.low.a = search rules in let ha : SFits w32 c.args.high.a = search rules in
    let s = simp to_z-of_z at c.span-x-end.ensures in
    let t = c.loop-x-test.false in
    let h : span_count c.args.low.a c.args.high.a ≤ c.loop-x.x = omega arith in
    boxed-all c.args.made.now.items c.loop-x.made.items c.args.lane c.args.low c.args.high c.args.cost c.loop-x.x h c.loop-x.invariant
