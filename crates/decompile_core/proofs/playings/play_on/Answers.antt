use Rattle.std.proofs.Common.{rules, w32, ◌≡◌, ◌+◌, ◌++◌, ◌∷◌, [], ap, ◌∙◌, arith}
use Rattle.std.specs.Prelude.{ℤ, pos, ◌*ℤ◌}
use mir.Val.{SFits}
use Rattle.std.proofs.lemmas.Int.{to_z-of_z}
use Rattle.player_model.specs.Sound.{Playing, heard}
use Rattle.decompile_core.proofs.PlayingSteps.{player_more, samples_more}
use Rattle.decompile_core.proofs.playings.play_on.Goals as goal

-- the player goes on by one output, which is one sample more
pub loop-preserved : goal.loop-preserved
loop-preserved g c =
    let d = g.S.StoredFormat.decoder in
    let f = g.S.StoredFormat.format in
    let at = c.args.player.now in
    let before : c.loop.player ≡ record { track = at.track; count = at.count + c.loop.counter } = c.loop.invariant.player in
    let fits : SFits w32 c.sample_of-sample.result = search rules in
    let fits_scale : SFits w32 c.args.scale = search rules in
    let fits_output : SFits w32 c.next.result = search rules in
    let pushed : c.push.new.self.items ≡ c.loop.samples.items ++ c.sample_of-sample.result ∷ [] = simp to_z-of_z at c.in-Ok.ensures.items in
    let told : c.sample_of-sample.result ≡ c.args.scale *ℤ c.next.result = simp to_z-of_z at c.sample_of-sample.ensures in
    let output : c.next.result ≡ heard d f at.track (at.count + c.loop.counter) = c.next.ensures.output ∙ ap (λ (p : Playing). heard d f p.track p.count) before in
    let sample = told ∙ ap (λ (s : ℤ). s *ℤ c.next.result) c.requires.scale ∙ ap (λ (x : ℤ). pos d.scale *ℤ x) output in
    record {
      player = player_more c.loop.player c.next.new.self at.track (at.count + c.loop.counter) _ before c.next.ensures.goes_on (omega arith);
      played = samples_more d.scale (heard d f at.track) c.loop.samples.items c.push.new.self.items c.sample_of-sample.result (at.count + c.loop.counter) _ c.loop.invariant.played sample pushed (omega arith);
    }
