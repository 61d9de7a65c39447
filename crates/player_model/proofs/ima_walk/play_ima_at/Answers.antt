use Rattle.std.proofs.Common.{rules, w32, ◌≡◌, ◌+◌, ◌<◌, ◌≤◌, suc, ap, sym, ◌∙◌, arith}
use Rattle.std.proofs.lemmas.Int.{to_z-of_z}
use mir.Val.{SFits}
use Rattle.player_model.specs.ImaTrack.{ImaSound}
use Rattle.player_model.specs.ImaPlayer.{place_at, state_before}
use Rattle.player_model.proofs.ImaWalks.{heard_frame, heard_silent_frame}
use Rattle.player_model.proofs.ima_walk.play_ima_at.Goals as goal

pub returns-then-place-from : goal.returns-then-place-from
returns-then-place-from c =
    let place = c.place_at-place.ensures ∙ ap (λ (t : ImaSound). place_at t.loop_at c.args.i) c.track.view_is in
    let within : c.place_at-place.result < c.args.track.now.frames = let e = ap (λ (t : ImaSound). t.frames) c.track.view_is in omega (arith, e, c.if-place-from.true) in
    let more : suc c.place_at-place.result ≡ c.place_at-place.result + 1 = omega arith in
    let heard = heard_frame c.args.track.now c.args.i c.place_at-place.result place within in
    let fits : SFits w32 c.output.result = search rules in
    simp to_z-of_z (c.output.ensures ∙ sym (heard ∙ ap (λ j. (state_before c.args.track.now j).a) more))

pub returns-else-place-from : goal.returns-else-place-from
returns-else-place-from c =
    let place = c.place_at-place.ensures ∙ ap (λ (t : ImaSound). place_at t.loop_at c.args.i) c.track.view_is in
    let past : c.args.track.now.frames ≤ c.place_at-place.result = let e = ap (λ (t : ImaSound). t.frames) c.track.view_is in omega (arith, e, c.if-place-from.false) in
    sym (heard_silent_frame c.args.track.now c.args.i c.place_at-place.result place past)
