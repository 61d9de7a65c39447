use Rattle.std.proofs.Common.{arith}
use Rattle.std.proofs.lemmas.Int.{ints}
use Rattle.strong_bound.specs.Quiet.{tried}
use Rattle.strong_bound.proofs.StateLaws.{last-none, last-more, last-all, last-under}
use Rattle.strong_bound.proofs.states.under_last.Goals as goal

pub loop-step-init : goal.loop-step-init
loop-step-init g c = record {
  most = omega arith;
  under = last-none (g.M.Machine.rules c.args.machine.now).decoder c.args.targets.now c.args.twice c.args.head c.args.first c.args.entry c.args.paid c.args.top;
}

pub loop-step-preserved : goal.loop-step-preserved
loop-step-preserved g c =
    let least = c.under_state-least in
    let old = c.loop-step.invariant in record {
      most = omega (arith, least.ensures.most, old.most);
      under = last-more (g.M.Machine.rules c.args.machine.now).decoder c.args.targets.now c.args.twice c.args.head c.args.first c.args.entry c.args.paid c.loop-step.step c.loop-step.least least.result _ old.under least.ensures.most
          (omega (arith, ints, c.from.ensures, c.requires.low, c.requires.high, c.loop-step-test.true)) (omega (arith, ints)) least.ensures.under;
    }

pub returns-clause-under : goal.returns-clause-under
returns-clause-under g c =
    last-all (g.M.Machine.rules c.args.machine.now).decoder c.args.targets.now c.args.twice c.args.head c.args.first c.args.entry c.args.paid c.loop-step.step tried c.loop-step.least (omega (arith, c.loop-step-test.false, c.loop-step.auto.step-end)) c.loop-step.invariant.under

pub returns-then-saturating_add-top-clause-under : goal.returns-then-saturating_add-top-clause-under
returns-then-saturating_add-top-clause-under g c =
    last-under (g.M.Machine.rules c.args.machine.now).decoder c.args.targets.now c.args.twice c.args.head c.args.rests.now c.args.first c.args.entry c.args.paid tried c.saturating_add.result c.args.top c.requires.rests c.requires.place (omega (arith, c.saturating_add.ensures)) c.if-saturating_add-top.true
