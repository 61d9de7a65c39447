use Rattle.row_bound.proofs.GuardLaws.{tells-known}
use Rattle.row_bound.proofs.probe.judged.Goals as goal

pub returns-then-floor-found : goal.returns-then-floor-found
returns-then-floor-found c steps ws layers is owes =
    tells-known c.args.v c.args.u c.args.row c.args.rest c.fixed_floor-floor.result c.if-row.true c.fixed_floor-floor.ensures steps ws layers owes
