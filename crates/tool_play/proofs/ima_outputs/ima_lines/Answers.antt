use Rattle.std.proofs.Common.{rules, ◌≡◌, ◌++◌, ap, ◌∙◌, ◌+◌, string_bytes}
use Rattle.player_model.specs.ImaTrack.{heard_ima}
use Rattle.player_model.specs.ImaPlayer.{PlayingIma}
use Rattle.tool_play.specs.Play.{output_line}
use Rattle.tool_play.proofs.PlaySteps.{line_more}
use Rattle.tool_play.proofs.ima_outputs.ima_lines.Goals as goal

-- the player goes on by one output, which is the next line
pub loop-i-preserved : goal.loop-i-preserved
loop-i-preserved c =
    let told : string_bytes c.write.new.self ≡ string_bytes c.loop-i.lines ++ output_line c.next-output.result = search rules in
    record {
      player = c.next-output.ensures.goes_on ∙ ap (λ (p : PlayingIma). record { track = p.track; count = p.count + 1 }) c.loop-i.invariant.player;
      lines = line_more (heard_ima c.args.track) c.loop-i.i c.next-output.result (string_bytes c.loop-i.lines) (string_bytes c.write.new.self) c.loop-i.invariant.lines
          (c.next-output.ensures.output ∙ ap (λ (p : PlayingIma). heard_ima p.track p.count) c.loop-i.invariant.player) told;
    }
