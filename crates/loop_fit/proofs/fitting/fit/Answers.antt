use Rattle.std.proofs.Common.{◌≡◌, ◌<◌, length, Ok, sym, ap, ◌∙◌, subst}
use Rattle.loop_fit.specs.Source.{IsSource}
use Rattle.loop_fit.specs.Align.{block_loop}
use Rattle.loop_fit.specs.Plan.{plan_of}
use Rattle.loop_fit.specs.Fit.{GoesRound, HasTargets, IsWhole}
use Rattle.loop_fit.proofs.FitLaws.{some_from, fitted_of-goes_round, fitted_of-targets, fitted_of-whole}
use Rattle.loop_fit.proofs.fitting.fit.Goals as goal

pub returns-clause-whole : goal.returns-clause-whole
returns-clause-whole c =
    let samples = c.args.samples.now in
    let source : IsSource samples c.args.at c.args.rule = record { count = c.requires.count; range = c.requires.range; loop = c.requires.loop_in; block = c.requires.block } in
    let some : 0 < length samples = some_from (length samples) (sym c.is_empty.ensures ∙ c.if-is_empty.false) in
    let planned : plan_of (length samples) (block_loop c.args.rule.kind c.args.at) c.args.rule ≡ Ok c.in_ok-plan.plan = ap (λ looped. plan_of (length samples) looped c.args.rule) (sym c.block_loop.ensures) ∙ sym c.in_ok-plan.ensures.value in
    subst (IsWhole c.args.rule.block) (sym c.in_ok-lay_plan.ensures) (fitted_of-whole samples c.args.at c.args.rule c.in_ok-plan.plan some source planned)

pub returns-clause-law : goal.returns-clause-law
returns-clause-law c =
    let samples = c.args.samples.now in
    let source : IsSource samples c.args.at c.args.rule = record { count = c.requires.count; range = c.requires.range; loop = c.requires.loop_in; block = c.requires.block } in
    let planned : plan_of (length samples) (block_loop c.args.rule.kind c.args.at) c.args.rule ≡ Ok c.in_ok-plan.plan = ap (λ looped. plan_of (length samples) looped c.args.rule) (sym c.block_loop.ensures) ∙ sym c.in_ok-plan.ensures.value in
    subst (GoesRound samples c.args.at c.args.rule) (sym c.in_ok-lay_plan.ensures) (fitted_of-goes_round samples c.args.at c.args.rule c.in_ok-plan.plan source planned)

pub returns-clause-targets : goal.returns-clause-targets
returns-clause-targets c =
    subst (HasTargets c.args.samples.now c.args.at c.args.rule) (sym c.in_ok-lay_plan.ensures) (fitted_of-targets c.args.samples.now c.args.at c.args.rule c.in_ok-plan.plan)
