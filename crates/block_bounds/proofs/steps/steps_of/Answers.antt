use Rattle.std.proofs.Common.{arith, w64, ◌≡◌, ◌+◌, to_z, of_z, ap, ◌∙◌, length}
use Rattle.std.proofs.lemmas.Int.{ints}
use Rattle.std.proofs.lemmas.List.{length-set}
use Rattle.block_bounds.proofs.StepLaws.{hold-more, hold-same, hold-as, are-steps}
use Rattle.block_bounds.proofs.steps.steps_of.Goals.{then-not-is_last, else-not-is_last}
use Rattle.block_bounds.proofs.steps.steps_of.Goals as goal

pub loop-i-preserved : goal.loop-i-preserved
loop-i-preserved c =
    let old = c.loop-i.invariant in
    let b = c.args.b in
    let s : to_z w64 (of_z w64 c.step_at-step.result) ≡ c.step_at-step.result = omega (arith, ints, c.step_at-step.ensures.low, c.step_at-step.ensures.high) in
    elim c.if-not-is_last.branch [
      | then-not-is_last w ↦ record {
        len = ap length w.steps-is ∙ (length-set c.loop-i.steps c.loop-i.count _ ∙ old.len);
        few = omega (arith, w.count-is, old.few);
        hold = hold-as b _ _ _ _ (c.loop-i.i + 1) w.steps-is w.count-is (hold-more b c.loop-i.steps c.loop-i.count c.loop-i.i _ (omega arith) (s ∙ c.step_at-step.ensures.value) old.hold);
      }
      | else-not-is_last w ↦ record {
        len = ap length w.steps-is ∙ old.len;
        few = omega (arith, w.count-is, old.few);
        hold = hold-as b _ _ _ _ (c.loop-i.i + 1) w.steps-is w.count-is
            (hold-same b c.loop-i.steps c.loop-i.count c.loop-i.i c.step_at-step.result (c.is_last.ensures.some w.if-not-is_last.false) (c.is_last.ensures.same w.if-not-is_last.false ∙ s) c.step_at-step.ensures.value old.hold);
      }
    ]

pub returns-clause-steps : goal.returns-clause-steps
returns-clause-steps c samples stand =
    are-steps c.args.b samples c.loop-i.steps c.loop-i.count c.loop-i.i stand c.loop-i.invariant.hold (omega (arith, c.loop-i.invariant.len, c.loop-i.invariant.few))
    (λ e. let k = c.count_of-i-end.ensures.wraps e in omega (arith, k)) (λ e. let k = c.count_of-i-end.ensures.plain e in omega (arith, k))
