use Rattle.std.proofs.Common.{rules, w32, ◌≡◌, ◌++◌, ◌∷◌, [], ap, sym, ◌∙◌, subst, arith}
use Rattle.std.specs.Prelude.{map}
use Rattle.std.specs.List.{range_with_len}
use mir.Val.{SFits}
use Rattle.std.proofs.lemmas.Int.{to_z-of_z}
use Rattle.adpcm_nums.specs.Sample.{AreSamples}
use Rattle.player_model.specs.ImaTrack.{heard_ima}
use Rattle.player_model.specs.ImaPlayer.{PlayingIma}
use Rattle.decompile_core.proofs.ImaSteps.{frames_more, heard_frames, player_more}
use Rattle.decompile_core.proofs.ima.play_frames.Goals as goal

pub loop-preserved : goal.loop-preserved
loop-preserved c =
    let fits : SFits w32 c.next-output.result = search rules in
    let pushed : c.push.new.self.items ≡ c.loop.samples.items ++ c.next-output.result ∷ [] = simp to_z-of_z at c.in-Ok.ensures.items in
    record {
      player = player_more c.loop.player c.next-output.new.self c.args.track c.loop.counter c.loop.invariant.player c.next-output.ensures.goes_on;
      played = frames_more (heard_ima c.args.track) c.loop.samples.items c.push.new.self.items c.next-output.result c.loop.counter c.loop.invariant.played
          (c.next-output.ensures.output ∙ ap (λ (p : PlayingIma). heard_ima p.track p.count) c.loop.invariant.player) pushed;
    }

pub from_vec-requires : goal.from_vec-requires
from_vec-requires c =
    let all : c.loop.counter ≡ c.args.track.frames = omega (arith, c.frames-frames.ensures) in
    subst AreSamples (sym (c.loop.invariant.played ∙ ap (λ n. map (heard_ima c.args.track) (range_with_len 0 n)) all ∙ heard_frames c.args.track c.requires.once)) c.requires.range

pub returns : goal.returns
returns c =
    let all : c.loop.counter ≡ c.args.track.frames = omega (arith, c.frames-frames.ensures) in
    c.from_vec.ensures ∙ c.loop.invariant.played ∙ ap (λ n. map (heard_ima c.args.track) (range_with_len 0 n)) all ∙ heard_frames c.args.track c.requires.once
