use Rattle.std.specs.Prelude.{pos, get_or, drop, ◌*ℤ◌, ◌-ℤ◌}
use Rattle.window_floor.specs.Numbers.{windows_of}
use Rattle.window_floor.proofs.MissLaws.{one-or-two}
use Rattle.block_bounds.proofs.Coverage.{outputs-path}
use Rattle.block_bounds.proofs.bound.bound_in.Goals as goal

pub returns-clause-owes : goal.returns-clause-owes
returns-clause-owes c samples r o n stand outputs =
    let b = windows_of c.args.b samples in
    let targets = c.args.targets.now in
    let tr = get_or targets 0 (pos 0) in
    let to = get_or targets 1 (pos 0) in
    let path = outputs-path b c.args.leaving _ (drop 2 targets) _ tr to r o n (one-or-two c.args.b.row.scale c.args.b.row.scale_is) (c.is_ladder.ensures c.if-not-is_ladder.false) (c.steps_of-count.ensures.steps samples stand) (c.fill.ensures samples stand) outputs in
    c.block_bound.ensures.owes (b.row.scale *ℤ r -ℤ tr) (b.row.scale *ℤ o -ℤ to) n path
