use Rattle.strong_bound.proofs.Unders.{under-as}
use Rattle.window_floor.specs.Numbers.{windows_of}
use Rattle.strong_bound.proofs.heads.bound_under.Goals as goal

pub returns-clause-under : goal.returns-clause-under
returns-clause-under g c =
    let w = (g.M.LinearMachine.linear c.args.machine.now).windows c.args.head in
    under-as (windows_of c.windows.result w.samples) w c.args.counting.leaving c.args.counting.entering c.args.targets.now c.head_bound.result c.windows.ensures.windows
    (λ r o n outputs. c.head_bound.ensures.owes w.samples r o n c.windows.ensures.samples outputs)
