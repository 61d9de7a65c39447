use Rattle.std.proofs.Common.{rules, w32}
use mir.Val.{SFits}
use Rattle.std.proofs.lemmas.Int.{to_z-of_z}
use Rattle.player_model.proofs.Rounds.{heard_silent, heard_sound}
use Rattle.player_model.proofs.index.play_at.Goals as goal

pub returns-then-at : goal.returns-then-at
returns-then-at g c = heard_silent g.S.StoredFormat.decoder g.S.StoredFormat.format c.args.track.now _ c.args.i c.position_of-at.ensures.value c.if-at.true

pub returns-else-at : goal.returns-else-at
returns-else-at g c =
    let fits : SFits w32 c.step_on.result.history.a = search rules in
    simp to_z-of_z (heard_sound g.S.StoredFormat.decoder g.S.StoredFormat.format c.args.track.now _ _ c.args.i c.position_of-at.ensures.value c.if-at.false c.step_on.ensures.value)
