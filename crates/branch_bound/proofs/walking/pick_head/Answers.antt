use Rattle.std.proofs.Common.{◌<◌, arith}
use Rattle.branch_bound.specs.Worth.{layer_certificate}
use Rattle.branch_bound.proofs.Picks.{never-found}
use Rattle.branch_bound.proofs.walking.pick_head.Goals as goal
use Rattle.machine_core.specs.Floors.{top}
use Rattle.box_layers.specs.Certificates.{head_found}

pub returns-clause-head : goal.returns-clause-head
returns-clause-head g c =
    let m = g.M.Machine.rules c.args.machine.now in let s = c.args.s.now in
    let most = c.requires.search.most in let less = c.requires.small in
    let small : c.args.left < top = omega arith in
    let e = c.heads-h-end.ensures in let t = c.loop-h-test.false in
    absurd (never-found m.decoder.heads (head_found m s.targets.now (layer_certificate s.level s.blocks c.args.next.now) c.args.at.index c.args.lane c.args.cell) c.args.left c.requires.left small
    (λ k h. c.loop-h.invariant k (omega arith)))

pub returns-clause-takes : goal.returns-clause-takes
returns-clause-takes g c =
    let m = g.M.Machine.rules c.args.machine.now in let s = c.args.s.now in
    let most = c.requires.search.most in let less = c.requires.small in
    let small : c.args.left < top = omega arith in
    let e = c.heads-h-end.ensures in let t = c.loop-h-test.false in
    absurd (never-found m.decoder.heads (head_found m s.targets.now (layer_certificate s.level s.blocks c.args.next.now) c.args.at.index c.args.lane c.args.cell) c.args.left c.requires.left small
    (λ k h. c.loop-h.invariant k (omega arith)))

pub returns-clause-way : goal.returns-clause-way
returns-clause-way g c =
    let m = g.M.Machine.rules c.args.machine.now in let s = c.args.s.now in
    let most = c.requires.search.most in let less = c.requires.small in
    let small : c.args.left < top = omega arith in
    let e = c.heads-h-end.ensures in let t = c.loop-h-test.false in
    absurd (never-found m.decoder.heads (head_found m s.targets.now (layer_certificate s.level s.blocks c.args.next.now) c.args.at.index c.args.lane c.args.cell) c.args.left c.requires.left small
    (λ k h. c.loop-h.invariant k (omega arith)))
