use Rattle.std.proofs.Common.{arith, rules, w32}
use mir.Val.{SFits}
use Rattle.std.proofs.lemmas.Int.{ints}
use Rattle.machine_core.specs.Boxes.{point_box, boxes-are}
use Rattle.machine_core.proofs.cells.point_box.Goals as goal

pub returns : goal.returns
returns c =
    let a : SFits w32 c.args.at.a = search rules in
    let b : SFits w32 c.args.at.b = search rules in
    boxes-are _ (point_box c.args.at) (omega (arith, ints)) (omega (arith, ints)) (omega (arith, ints)) (omega (arith, ints))
