use Rattle.std.proofs.Common.{ℕ, ◌*◌, ◌^◌, ◌≤◌, length, subst, sym}
use Rattle.cert_check.proofs.Ready.{layers-ready}
use Rattle.bank_check.proofs.CellFaults.{fault-is, none-where-accepted}
use Rattle.bank_check.proofs.SomeLegal.{bound-small}
use Rattle.bank_check.proofs.Tallied.{bound-same, bound-other, bound-fault}
use Rattle.bank_check.proofs.tally.tested.Goals as goal

pub returns-then-have-found-clause-value : goal.returns-then-have-found-clause-value
returns-then-have-found-clause-value g c =
    let r = g.M.Machine.rules c.args.machine.now in
    let s = c.args.segment.now in
    bound-same r c.args.targets.now c.args.i c.bound-have.result c.in-Ok.found s
    (none-where-accepted r c.args.targets.now s (layers-ready r s c.requires.filed c.requires.fits) c.requires.fits.sorted c.in-Ok.ensures.accepted)
    c.bound-have.ensures c.in-Ok.ensures.value c.if-have-found.true

pub returns-then-have-found-clause-small : goal.returns-then-have-found-clause-small
returns-then-have-found-clause-small g c =
    let r = g.M.Machine.rules c.args.machine.now in
    subst (λ (z : ℕ). z ≤ length c.args.targets.now * 2 ^ 32) (sym c.if-have-found.true)
    (bound-small r (g.met.M.Machine.lawful c.args.machine.now) c.args.segment.now.blocks c.in-Ok.found c.args.targets.now c.requires.count c.requires.range c.in-Ok.ensures.bound)

pub returns-else-have-found-clause-value : goal.returns-else-have-found-clause-value
returns-else-have-found-clause-value g c =
    let r = g.M.Machine.rules c.args.machine.now in
    let s = c.args.segment.now in
    bound-other r c.args.targets.now c.args.i c.bound-have.result c.in-Ok.found s
    (none-where-accepted r c.args.targets.now s (layers-ready r s c.requires.filed c.requires.fits) c.requires.fits.sorted c.in-Ok.ensures.accepted)
    c.bound-have.ensures c.in-Ok.ensures.value c.if-have-found.false

pub returns-in-Err-clause-value : goal.returns-in-Err-clause-value
returns-in-Err-clause-value g c =
    bound-fault (g.M.Machine.rules c.args.machine.now) c.args.targets.now c.args.i c.args.segment.now c.in-Err.fault
    (fault-is (g.M.Machine.rules c.args.machine.now) c.args.targets.now c.args.segment.now c.in-Err.fault c.in-Err.ensures.fault)
