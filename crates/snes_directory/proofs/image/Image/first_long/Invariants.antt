use Rattle.std.proofs.Common.{◌≡◌}
use Rattle.std.specs.Prelude.{None}
use Rattle.adpcm_nums.specs.First.{first_where}
use Rattle.snes_directory.specs.EntryTracks.{is_long}
use Rattle.snes_directory.proofs.image.Image.first_long.Given as goal

abbrev pub invariant-loop-i : goal.invariant-loop-i
invariant-loop-i l = first_where (is_long l.self) l.i ≡ None
