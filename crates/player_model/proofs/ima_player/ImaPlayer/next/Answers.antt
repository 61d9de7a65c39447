use Rattle.std.proofs.Common.{rules, w32, ◌≡◌, ap, sym, ◌∙◌, subst, arith}
use Rattle.std.specs.Prelude.{pos}
use Rattle.std.proofs.lemmas.Int.{to_z-of_z}
use mir.Val.{SFits}
use Rattle.player_model.specs.ImaTrack.{ImaSound, heard_ima}
use Rattle.player_model.specs.ImaPlayer.{PlayingIma, frame_moved}
use Rattle.player_model.proofs.ImaPlaying.{plays_frame, heard_next, heard_behind, not_behind}
use Rattle.player_model.proofs.ima_player.ImaPlayer.next.Goals as goal

pub returns-then-self-frames-clause-output : goal.returns-then-self-frames-clause-output
returns-then-self-frames-clause-output c =
    heard_behind c.self.inside.track c.self.inside.at c.self.inside.count c.self.invariant (c.if-self-frames.true ∙ c.frames.ensures)
    ∙ ap (λ (p : PlayingIma). heard_ima p.track p.count) c.self.view_is

pub invariant_of-self-2 : goal.invariant_of-self-2
invariant_of-self-2 c =
    let within = not_behind c.self.inside.track c.self.inside.at c.self.inside.count c.self.invariant (λ e. c.if-self-frames.false (e ∙ sym c.frames.ensures)) in
    plays_frame c.self.inside.track c.self.inside.at c.moved-self-inside.result c.state_after-after.result c.self.inside.count c.self.invariant within
    c.state_after-after.ensures.range c.state_after-after.ensures.value
    (c.moved-self-inside.ensures ∙ ap (λ l. frame_moved l c.self.inside.at c.state_after-after.result) c.loop_at.ensures)

pub returns-clause-output : goal.returns-clause-output
returns-clause-output c =
    let within = not_behind c.self.inside.track c.self.inside.at c.self.inside.count c.self.invariant (λ e. c.if-self-frames.false (e ∙ sym c.frames.ensures)) in
    let fits : SFits w32 c.state_after-after.result.a = search rules in
    simp to_z-of_z (heard_next c.self.inside.track c.self.inside.at c.state_after-after.result c.self.inside.count c.self.invariant within c.state_after-after.ensures.value
    ∙ ap (λ (p : PlayingIma). heard_ima p.track p.count) c.self.view_is)
