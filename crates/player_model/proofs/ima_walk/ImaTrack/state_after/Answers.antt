use Rattle.std.proofs.Common.{◌≡◌, ◌<◌, subst, sym}
use Rattle.machine_core.specs.Blocks.{step_at}
use Rattle.player_model.specs.ImaTrack.{ImaSound, decoder_of, list_of}
use Rattle.player_model.proofs.ImaWalks.{code_inside, head_inside, head_fits, step_here, step_stays}
use Rattle.player_model.proofs.ima_walk.ImaTrack.state_after.Goals as goal

pub symbol_at-symbol-requires : goal.symbol_at-symbol-requires
symbol_at-symbol-requires c =
    let within = subst (λ (t : ImaSound). c.args.frame < t.frames) (sym c.self.view_is) c.requires.frame in
    code_inside _ c.self.invariant.0 c.args.frame _ c.block_samples-samples.ensures within

pub head_at-requires : goal.head_at-requires
head_at-requires c =
    let within = subst (λ (t : ImaSound). c.args.frame < t.frames) (sym c.self.view_is) c.requires.frame in
    head_inside _ c.self.invariant.0 c.args.frame _ c.block_samples-samples.ensures within

pub step-requires-clause-head : goal.step-requires-clause-head
step-requires-clause-head c =
    let within = subst (λ (t : ImaSound). c.args.frame < t.frames) (sym c.self.view_is) c.requires.frame in
    head_fits _ c.self.invariant.0 c.args.frame _ _ c.block_samples-samples.ensures within c.head_at.ensures.value

pub returns-clause-value : goal.returns-clause-value
returns-clause-value c =
    let within = subst (λ (t : ImaSound). c.args.frame < t.frames) (sym c.self.view_is) c.requires.frame in
    subst (λ (t : ImaSound). c.step.result ≡ step_at (decoder_of t) (list_of t) c.args.frame c.args.from) c.self.view_is
    (step_here _ c.self.invariant.0 c.args.frame _ _ _ c.args.from c.step.result c.block_samples-samples.ensures within c.head_at.ensures.value c.symbol_at-symbol.ensures.value c.step.ensures)

pub returns-clause-range : goal.returns-clause-range
returns-clause-range c =
    let within = subst (λ (t : ImaSound). c.args.frame < t.frames) (sym c.self.view_is) c.requires.frame in
    let head = head_fits _ c.self.invariant.0 c.args.frame _ _ c.block_samples-samples.ensures within c.head_at.ensures.value in
    step_stays _ _ _ c.args.from c.step.result head c.symbol_at-symbol.ensures.range c.requires.from c.step.ensures
