use Rattle.std.proofs.Common.{◌≡◌, length, ◌<◌}
use Rattle.adpcm_nums.specs.Sample.{AreSamples}
use Rattle.decoder_tests.proofs.ima.floors.walk.Given as goal

abbrev pub invariant-loop-i : goal.invariant-loop-i
invariant-loop-i l = record { len : length l.out ≡ 505; small : l.state < 4294967296; range : AreSamples l.out }
