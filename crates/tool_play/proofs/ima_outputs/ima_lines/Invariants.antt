use Rattle.std.proofs.Common.{◌≡◌, string_bytes}
use Rattle.player_model.specs.ImaTrack.{heard_ima}
use Rattle.tool_play.specs.Play.{play_lines}
use Rattle.tool_play.proofs.ima_outputs.ima_lines.Given as goal

abbrev pub invariant-loop-i : goal.invariant-loop-i
invariant-loop-i l = record {
  player : l.player ≡ record { track = l.fn.track; count = l.i };
  lines : string_bytes l.lines ≡ play_lines (heard_ima l.fn.track) l.i;
}
