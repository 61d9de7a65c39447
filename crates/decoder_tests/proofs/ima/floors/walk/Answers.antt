use Rattle.std.proofs.Common.{arith, refl}
use Rattle.std.specs.Prelude.{pos}
use Rattle.std.proofs.lemmas.Int.{ints}
use Rattle.std.proofs.lemmas.List.Elements.{All-replicate}
use Rattle.adpcm_nums.specs.Sample.{IsSample}
use Rattle.decoder_tests.proofs.ima.floors.walk.Goals as goal

pub loop-i-init : goal.loop-i-init
loop-i-init c = record { len = refl; small = omega arith; range = All-replicate IsSample 505 (pos 0) (record { low = omega (arith, ints); high = omega (arith, ints) }) }
