use Rattle.std.proofs.Common.{arith, ◌-◌, ◌<◌}
use Rattle.row_bound.proofs.DoneLaws.{kept-low, kept-high, stands-up, stands-down}
use Rattle.row_bound.proofs.pick.row_at.Goals as goal

pub moved-requires-clause-low : goal.moved-requires-clause-low
moved-requires-clause-low c = kept-low c.args.steps.now c.args.done.high c.requires.ladder (c.requires.up c.in-Up.is)

pub moved-requires-clause-high : goal.moved-requires-clause-high
moved-requires-clause-high c = kept-high c.args.steps.now c.args.done.high c.requires.ladder (c.requires.up c.in-Up.is)

pub moved-requires-in-Down-clause-low : goal.moved-requires-in-Down-clause-low
moved-requires-in-Down-clause-low c =
    let some : 0 < c.args.done.low = c.requires.down c.in-Down.is in
    kept-low c.args.steps.now (c.args.done.low - 1) c.requires.ladder (omega (arith, some, c.requires.low))

pub moved-requires-in-Down-clause-high : goal.moved-requires-in-Down-clause-high
moved-requires-in-Down-clause-high c =
    let some : 0 < c.args.done.low = c.requires.down c.in-Down.is in
    kept-high c.args.steps.now (c.args.done.low - 1) c.requires.ladder (omega (arith, some, c.requires.low))

pub returns-in-Up : goal.returns-in-Up
returns-in-Up c = stands-up c.args.steps.now c.args.layer c.args.done c.args.side c.moved.result c.requires.ladder c.in-Up.is (c.requires.up c.in-Up.is) c.moved.ensures

pub returns-in-Down : goal.returns-in-Down
returns-in-Down c = stands-down c.args.steps.now c.args.layer c.args.done c.args.side c.moved-in-Down.result c.requires.ladder c.in-Down.is (c.requires.down c.in-Down.is) c.requires.low c.moved-in-Down.ensures
