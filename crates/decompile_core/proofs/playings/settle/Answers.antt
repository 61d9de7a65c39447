use Rattle.std.proofs.Common.{◌+◌, ap, sym, ◌∙◌, arith, refl}
use Rattle.player_model.specs.Sound.{Playing, heard}
use Rattle.adpcm_nums.proofs.FirstLaws.{none_at_zero, none_more}
use Rattle.decompile_core.specs.Playings.{end_of, samples_of, settles_at}
use Rattle.decompile_core.proofs.PlayingSteps.{end_first, end_later, player_at, samples_cut, settled_here, settled_none}
use Rattle.decompile_core.proofs.playings.settle.Goals as goal

pub loop-m-init : goal.loop-m-init
loop-m-init g c = record {
  player = player_at c.args.player.now (end_of c.args.points 0) c.requires.count;
  played = c.requires.played;
  none = none_at_zero (settles_at (heard g.S.StoredFormat.decoder g.S.StoredFormat.format c.args.player.now.track) c.args.points);
}

pub returns-then-branch-clause-settled : goal.returns-then-branch-clause-settled
returns-then-branch-clause-settled g c =
    let output = heard g.S.StoredFormat.decoder g.S.StoredFormat.format c.args.player.now.track in
    let track = ap (λ (p : Playing). heard g.S.StoredFormat.decoder g.S.StoredFormat.format p.track) c.loop-m.invariant.player in
    settled_here output c.args.points c.loop-m.m c.loop-m-test.true c.loop-m.invariant.none
    (sym (c.in_ok-play_again.ensures.again ∙ ap (λ h. settles_at h c.args.points c.loop-m.m) track) ∙ c.if-branch.true)

pub returns-then-branch-clause-kept : goal.returns-then-branch-clause-kept
returns-then-branch-clause-kept g c =
    let d = g.S.StoredFormat.decoder in
    samples_cut d.scale (heard d g.S.StoredFormat.format c.args.player.now.track) c.play_again.new.samples.items c.truncate.new.self.items (end_of c.args.points (c.loop-m.m + 1)) (end_of c.args.points c.loop-m.m) _
    (c.in_ok-play_again.ensures.played ∙ ap (λ (p : Playing). samples_of d.scale (heard d g.S.StoredFormat.format p.track) (end_of c.args.points (c.loop-m.m + 1))) c.loop-m.invariant.player)
    c.truncate.ensures.items refl (end_later c.args.points c.loop-m.m)

pub loop-m-preserved : goal.loop-m-preserved
loop-m-preserved g c =
    let d = g.S.StoredFormat.decoder in
    let f = g.S.StoredFormat.format in
    let last = end_of c.args.points (c.loop-m.m + 1) in
    let output = heard d f c.args.player.now.track in
    record {
      player = c.in_ok-play_again.ensures.player ∙ ap (λ (p : Playing). record { track = p.track; count = last }) c.loop-m.invariant.player;
      played = c.in_ok-play_again.ensures.played ∙ ap (λ (p : Playing). samples_of d.scale (heard d f p.track) last) c.loop-m.invariant.player;
      none = none_more (settles_at output c.args.points) c.loop-m.m c.loop-m.invariant.none
          (sym (c.in_ok-play_again.ensures.again ∙ ap (λ (p : Playing). settles_at (heard d f p.track) c.args.points c.loop-m.m) c.loop-m.invariant.player) ∙ c.if-branch.false);
    }

pub returns-clause-settled : goal.returns-clause-settled
returns-clause-settled g c =
    settled_none (heard g.S.StoredFormat.decoder g.S.StoredFormat.format c.args.player.now.track) c.args.points c.loop-m.m (omega arith) c.loop-m.invariant.none

pub returns-clause-kept : goal.returns-clause-kept
returns-clause-kept g c =
    let d = g.S.StoredFormat.decoder in
    samples_cut d.scale (heard d g.S.StoredFormat.format c.args.player.now.track) c.loop-m.samples.items c.truncate-2.new.self.items (end_of c.args.points c.loop-m.m) (end_of c.args.points 0) _
    c.loop-m.invariant.played c.truncate-2.ensures.items (omega arith) (end_first c.args.points c.loop-m.m)
