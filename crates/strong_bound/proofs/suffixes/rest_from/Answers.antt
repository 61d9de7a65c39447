use Rattle.std.proofs.Common.{arith, subst}
use Rattle.strong_bound.proofs.SuffixLaws.{KeepsLast, keeps-last, entry-rest, greater-rest, known-rest}
use Rattle.strong_bound.proofs.suffixes.rest_from.Goals as goal

pub returns-then-low-top : goal.returns-then-low-top
returns-then-low-top g c =
    known-rest (g.M.Machine.rules c.args.machine.now) (g.met.M.Machine.lawful c.args.machine.now) c.args.targets.now c.args.twice c.args.head c.args.place c.max-low.result c.args.rests.now
    c.requires.head (omega (arith, c.requires.place)) c.requires.rests c.max-low.ensures

pub returns : goal.returns
returns g c =
    let r = g.M.Machine.rules c.args.machine.now in
    let laws = g.met.M.LinearMachine.is_linear c.args.machine.now in
    let keeps : KeepsLast r.decoder = subst KeepsLast laws.1 (keeps-last (g.M.LinearMachine.linear c.args.machine.now) laws.0) in
    let e = c.entry_behind-entry in
    let known = known-rest r (g.met.M.Machine.lawful c.args.machine.now) c.args.targets.now c.args.twice c.args.head c.args.place c.max-low.result c.args.rests.now
    c.requires.head (omega (arith, c.requires.place)) c.requires.rests c.max-low.ensures in
    let found = entry-rest r (g.met.M.Machine.lawful c.args.machine.now) keeps c.args.targets.now c.args.twice c.args.head c.args.place e.result c.under_states-found.result c.requires.head c.requires.place e.ensures.place
    e.ensures.last e.ensures.older e.ensures.times e.ensures.times_older c.under_states-found.ensures.under in
    greater-rest r.decoder c.args.targets.now c.args.twice c.args.head c.args.place c.max-low.result c.under_states-found.result c.max.result c.max.ensures known found
