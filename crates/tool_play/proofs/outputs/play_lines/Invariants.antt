use Rattle.std.proofs.Common.{◌≡◌, string_bytes}
use Rattle.player_model.specs.Sound.{heard}
use Rattle.tool_play.specs.Play.{play_lines}
use Rattle.tool_play.proofs.outputs.play_lines.Given as goal

abbrev pub invariant-loop-i : goal.invariant-loop-i
invariant-loop-i g l = record {
  player : l.player ≡ record { track = l.fn.track; count = l.i };
  lines : string_bytes l.lines ≡ play_lines (heard g.F.StoredFormat.decoder g.F.StoredFormat.format l.fn.track) l.i;
}
