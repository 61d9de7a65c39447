use Rattle.std.proofs.Common.{rules, w32, ◌≡◌, ◌+◌, subst, ap, sym, ◌∙◌, arith, refl}
use Rattle.std.proofs.lemmas.Int.{to_z-of_z}
use mir.Val.{SFits}
use Rattle.machine_core.specs.declared.state.State.{State}
use Rattle.player_model.specs.ImaPlayer.{state_before}
use Rattle.player_model.specs.ImaTrack.{ImaSound, IsImaTrack}
use Rattle.ima_machine.specs.Ima.{samples_in}
use Rattle.player_model.proofs.ImaWalks.{first_state_is, next_state_is}
use Rattle.player_model.proofs.ima_walk.ImaTrack.output.Goals as goal

pub loop-next-init : goal.loop-next-init
loop-next-init c =
    let is = subst IsImaTrack c.self.view_is c.self.invariant.0 in
    let samples = c.block_samples.ensures ∙ ap (λ (t : ImaSound). samples_in t.align) c.self.view_is in
    let value = first_state_is c.args.self.now is c.args.frame c.block_samples.result _ _ c.state_after-state.result samples refl c.state_after-state.ensures.value in
    (c.state_after-state.ensures.range, value, omega arith)

pub loop-next-preserved : goal.loop-next-preserved
loop-next-preserved c =
    let next = c.state_after-state-in-loop-next in
    let here = c.loop-next.invariant.1 in
    (next.ensures.range, next_state_is c.args.self.now c.loop-next.next _ next.result here next.ensures.value, omega (arith, c.loop-next-test.true))

pub returns : goal.returns
returns c =
    let last : c.loop-next.next ≡ c.args.frame + 1 = let most = c.loop-next.invariant.2 in omega (arith, c.loop-next-test.false, most) in
    let fits : SFits w32 c.loop-next.state.a = search rules in
    simp to_z-of_z (ap (λ (s : State). s.a) (c.loop-next.invariant.1 ∙ ap (state_before c.args.self.now) last))
