use Rattle.std.proofs.Common.{◌≡◌, ◌≤◌, ◌+◌, ◌*◌, length, ap, sym, ◌∙◌, subst}
use Rattle.player_model.specs.Sound.{heard}
use Rattle.decompile_core.specs.Playings.{end_of, length_of, samples_of}
use Rattle.decompile_core.proofs.PlayingSteps.{again_scaled, end_more, playing_room, samples_long}
use Rattle.decompile_core.proofs.playings.play_again.Goals as goal

pub is_again-requires : goal.is_again-requires
is_again-requires g c =
    let d = g.S.StoredFormat.decoder in
    let output = heard d g.S.StoredFormat.format c.args.player.now.track in
    let points = c.args.points in
    let count = ap (λ n. n + length_of points) c.requires.count ∙ end_more points c.args.m in
    let long : length c.as_slice.result.now ≡ end_of points (c.args.m + 1) =
    ap length (c.as_slice.ensures.value ∙ c.in_ok-play_on.ensures.played ∙ ap (samples_of d.scale output) count) ∙ samples_long d.scale output (end_of points (c.args.m + 1)) in
    let room = playing_room points c.args.m c.requires.ordered in
    subst (λ n. points.start + c.args.m * length_of points + length_of points + length_of points ≤ n) (sym long) room

pub returns-clause-again : goal.returns-clause-again
returns-clause-again g c =
    let d = g.S.StoredFormat.decoder in
    let output = heard d g.S.StoredFormat.format c.args.player.now.track in
    let points = c.args.points in
    let count = ap (λ n. n + length_of points) c.requires.count ∙ end_more points c.args.m in
    c.is_again.ensures
    ∙ again_scaled d.scale output c.as_slice.result.now (end_of points (c.args.m + 1)) (points.start + c.args.m * length_of points) (length_of points) c.requires.some_scale
    (c.as_slice.ensures.value ∙ c.in_ok-play_on.ensures.played ∙ ap (samples_of d.scale output) count) (playing_room points c.args.m c.requires.ordered)
