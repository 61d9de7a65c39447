use Rattle.strong_bound.specs.Quiet.{twice_of}
use Rattle.strong_bound.proofs.HeadLaws.{states-zero}
use Rattle.strong_bound.proofs.quiet.quiet_bound.Goals as goal

pub returns-then-top-gt-QUIET-clause-under : goal.returns-then-top-gt-QUIET-clause-under
returns-then-top-gt-QUIET-clause-under g c =
    let d = (g.M.Machine.rules c.args.machine.now).decoder in
    λ head within allowed. states-zero d c.args.aim c.args.targets.now (twice_of c.args.leaving d.samples) head
