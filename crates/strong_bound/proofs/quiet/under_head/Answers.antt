use Rattle.std.proofs.Common.{arith}
use Rattle.strong_bound.proofs.HeadLaws.{places-are, scale-fits, scale-told, floor-under, entry-under, head-rests, near-enough}
use Rattle.strong_bound.proofs.quiet.under_head.Goals as goal

pub fill_rests-requires-clause-count : goal.fill_rests-requires-clause-count
fill_rests-requires-clause-count g c =
    let laws = g.met.M.LinearMachine.is_linear c.args.machine.now in
    let same = places-are (g.M.LinearMachine.linear c.args.machine.now) laws.0 (g.M.Machine.rules c.args.machine.now).decoder laws.1 c.windows-windows.result c.args.head c.windows-windows.ensures.windows in
    omega (arith, same, c.requires.count)

pub fill_rests-requires-clause-twice : goal.fill_rests-requires-clause-twice
fill_rests-requires-clause-twice g c =
    let laws = g.met.M.LinearMachine.is_linear c.args.machine.now in
    let same = places-are (g.M.LinearMachine.linear c.args.machine.now) laws.0 (g.M.Machine.rules c.args.machine.now).decoder laws.1 c.windows-windows.result c.args.head c.windows-windows.ensures.windows in
    omega (arith, same, c.requires.twice)

pub fill_rests-requires-clause-table : goal.fill_rests-requires-clause-table
fill_rests-requires-clause-table g c =
    let laws = g.met.M.LinearMachine.is_linear c.args.machine.now in
    let same = places-are (g.M.LinearMachine.linear c.args.machine.now) laws.0 (g.M.Machine.rules c.args.machine.now).decoder laws.1 c.windows-windows.result c.args.head c.windows-windows.ensures.windows in
    omega (arith, same, c.requires.table)

pub returns-then-table-top-clause-under : goal.returns-then-table-top-clause-under
returns-then-table-top-clause-under g c =
    let d = (g.M.Machine.rules c.args.machine.now).decoder in
    let laws = g.met.M.LinearMachine.is_linear c.args.machine.now in
    let rests = head-rests (g.M.LinearMachine.linear c.args.machine.now) laws.0 d laws.1 c.windows-windows.result c.args.head c.windows-windows.ensures.windows c.windows-windows.ensures.samples
    c.args.targets.now c.args.twice c.fill_rests.new.table c.requires.twice c.fill_rests.ensures.front c.fill_rests.ensures.back in
    floor-under d c.args.aim c.args.targets.now c.args.twice c.args.head c.fill_rests.new.table c.args.top rests c.if-table-top.true

pub raise_rests-requires-clause-rests : goal.raise_rests-requires-clause-rests
raise_rests-requires-clause-rests g c =
    let d = (g.M.Machine.rules c.args.machine.now).decoder in
    let laws = g.met.M.LinearMachine.is_linear c.args.machine.now in
    head-rests (g.M.LinearMachine.linear c.args.machine.now) laws.0 d laws.1 c.windows-windows.result c.args.head c.windows-windows.ensures.windows c.windows-windows.ensures.samples
    c.args.targets.now c.args.twice c.fill_rests.new.table c.requires.twice c.fill_rests.ensures.front c.fill_rests.ensures.back

pub raise_rests-requires-clause-scale : goal.raise_rests-requires-clause-scale
raise_rests-requires-clause-scale g c = scale-fits (g.M.LinearMachine.linear c.args.machine.now) (g.met.M.LinearMachine.is_linear c.args.machine.now).0 c.windows-windows.result c.args.head c.windows-windows.ensures.windows

pub raise_rests-requires-clause-scale_is : goal.raise_rests-requires-clause-scale_is
raise_rests-requires-clause-scale_is g c =
    let laws = g.met.M.LinearMachine.is_linear c.args.machine.now in
    scale-told (g.M.LinearMachine.linear c.args.machine.now) laws.0 (g.M.Machine.rules c.args.machine.now).decoder laws.1 c.windows-windows.result c.args.head c.windows-windows.ensures.windows

pub under_states-requires-clause-scale : goal.under_states-requires-clause-scale
under_states-requires-clause-scale g c = scale-fits (g.M.LinearMachine.linear c.args.machine.now) (g.met.M.LinearMachine.is_linear c.args.machine.now).0 c.windows-windows.result c.args.head c.windows-windows.ensures.windows

pub under_states-requires-clause-scale_is : goal.under_states-requires-clause-scale_is
under_states-requires-clause-scale_is g c =
    let laws = g.met.M.LinearMachine.is_linear c.args.machine.now in
    scale-told (g.M.LinearMachine.linear c.args.machine.now) laws.0 (g.M.Machine.rules c.args.machine.now).decoder laws.1 c.windows-windows.result c.args.head c.windows-windows.ensures.windows

pub under_states-requires-clause-near : goal.under_states-requires-clause-near
under_states-requires-clause-near g c =
    near-enough _ _ c.args.top (scale-fits (g.M.LinearMachine.linear c.args.machine.now) (g.met.M.LinearMachine.is_linear c.args.machine.now).0 c.windows-windows.result c.args.head c.windows-windows.ensures.windows) c.requires.top

pub returns-clause-under : goal.returns-clause-under
returns-clause-under g c = entry-under (g.M.Machine.rules c.args.machine.now).decoder c.args.aim c.args.targets.now c.args.twice c.args.head c.under_states.result c.under_states.ensures.under
