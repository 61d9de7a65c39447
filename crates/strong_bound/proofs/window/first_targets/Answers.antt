use Rattle.std.proofs.Common.{arith, refl}
use Rattle.std.specs.Prelude.{pos}
use Rattle.std.proofs.lemmas.Int.{ints}
use Rattle.std.proofs.lemmas.List.Elements.{All-replicate}
use Rattle.adpcm_nums.specs.Sample.{IsSample}
use Rattle.strong_bound.proofs.window.first_targets.Goals as goal

pub loop-place-init : goal.loop-place-init
loop-place-init c = record {
  len = refl;
  range = All-replicate IsSample 30 (pos 0) (record { low = omega (arith, ints); high = omega (arith, ints) });
  own = λ j h. absurd (omega (arith, h));
}
