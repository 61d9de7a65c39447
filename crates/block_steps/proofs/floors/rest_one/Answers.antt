use Rattle.std.proofs.Common.{arith}
use Rattle.block_steps.proofs.Alike.{floor-one, floor-none, row-floor}
use Rattle.block_steps.proofs.floors.rest_one.Goals as goal

pub returns-in-Some : goal.returns-in-Some
returns-in-Some g c =
    let m = g.M.Machine.rules c.args.machine.now in
    let laws = g.met.M.Machine.lawful c.args.machine.now in
    let some = c.in-Some.ensures.some in
    let at = c.requires.at in
    let is = row-floor m laws c.args.targets.now c.args.rows.now c.row_of-row.result.now c.args.at c.args.lane c.args.bx c.in-Some.head c.floor_at.result c.floor_len.result at c.requires.rows c.requires.inside c.requires.bx
    some.0 some.1 c.in-Some.ensures.first c.floor_len.ensures c.row_of-row.ensures.value c.floor_at.ensures in
    floor-one m laws c.args.targets.now c.args.at.index c.args.lane c.args.at.place c.args.bx c.in-Some.head c.floor_at.result some.0 at.place c.requires.inside some.1 is (let t = c.floor_at.type_inv in omega arith)

pub returns-in-None : goal.returns-in-None
returns-in-None g c =
    floor-none (g.M.Machine.rules c.args.machine.now) c.args.targets.now c.args.at.index c.args.lane c.args.bx (c.lane_head.ensures.none c.in-None.is)
