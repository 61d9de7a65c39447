use Rattle.std.proofs.Common.{◌≡◌}
use Rattle.std.specs.Prelude.{None}
use Rattle.adpcm_nums.specs.First.{first_where}
use Rattle.player_model.specs.Sound.{heard}
use Rattle.decompile_core.specs.Playings.{end_of, samples_of, settles_at}
use Rattle.decompile_core.proofs.playings.settle.Given as goal

abbrev pub invariant-loop-m : goal.invariant-loop-m
invariant-loop-m g l = record {
  player : l.player ≡ record { track = l.initial.player.track; count = end_of l.fn.points l.m };
  played : l.samples.items ≡ samples_of g.S.StoredFormat.decoder.scale (heard g.S.StoredFormat.decoder g.S.StoredFormat.format l.initial.player.track) (end_of l.fn.points l.m);
  none : first_where (settles_at (heard g.S.StoredFormat.decoder g.S.StoredFormat.format l.initial.player.track) l.fn.points) l.m ≡ None;
}
