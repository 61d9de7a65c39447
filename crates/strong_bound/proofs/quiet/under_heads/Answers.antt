use Rattle.std.proofs.Common.{arith, sym, subst, ◌∙◌}
use Rattle.std.proofs.lemmas.Bool.{true≢false}
use Rattle.strong_bound.specs.Quiet.{IsUnderStates}
use Rattle.strong_bound.proofs.HeadLaws.{heads-more}
use Rattle.strong_bound.proofs.quiet.under_heads.Goals.{then-allows, else-allows}
use Rattle.strong_bound.proofs.quiet.under_heads.Goals as goal

pub loop-head-preserved : goal.loop-head-preserved
loop-head-preserved g c =
    let d = (g.M.Machine.rules c.args.machine.now).decoder in
    let old = c.loop-head.invariant in
    elim c.if-allows.branch [
      | then-allows w ↦ record {
        table = omega (arith, c.if-allows.auto.table, old.table);
        front = omega (arith, c.if-allows.auto.front, old.front);
        most = omega (arith, w.least-is, w.under_head-least.ensures.most, old.most);
        under = heads-more d c.args.rule c.args.aim c.args.targets.now c.args.twice c.loop-head.head c.loop-head.least _ old.under (omega (arith, w.least-is, w.under_head-least.ensures.most))
            (λ allowed. subst (IsUnderStates d c.args.aim c.args.targets.now c.args.twice c.loop-head.head) (sym w.least-is) w.under_head-least.ensures.under);
      }
      | else-allows w ↦ record {
        table = omega (arith, c.if-allows.auto.table, old.table);
        front = omega (arith, c.if-allows.auto.front, old.front);
        most = omega (arith, w.least-is, old.most);
        under = heads-more d c.args.rule c.args.aim c.args.targets.now c.args.twice c.loop-head.head c.loop-head.least _ old.under (omega (arith, w.least-is))
            (λ allowed. absurd (true≢false (sym allowed ∙ sym c.allows.ensures ∙ w.if-allows.false)));
      }
    ]
