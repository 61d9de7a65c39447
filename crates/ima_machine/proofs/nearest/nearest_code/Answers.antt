use Rattle.std.proofs.Common.{rules, ap, ◌∙◌, w32, arith, ◌≡◌}
use mir.Val.{SFits}
use Rattle.std.specs.Prelude.{◌≤ℤ◌, ◌-ℤ◌, pos, negsuc, unsigned_abs}
use Rattle.std.proofs.lemmas.Int.{ints, to_z-of_z}
use Rattle.adpcm_nums.proofs.IntTests.{from-test}
use Rattle.ima_machine.specs.Steps.{step_size}
use Rattle.ima_machine.specs.Laws.States.{output_of}
use Rattle.ima_machine.proofs.NearestCodes.{rising-nearest, falling-nearest}
use Rattle.ima_machine.proofs.nearest.nearest_code.Goals as goal

pub returns-then-from-target-clause-value : goal.returns-then-from-target-clause-value
returns-then-from-target-clause-value c =
    let target : SFits w32 c.args.target = c.ranges.target in
    let last : SFits w32 c.args.from.a = search rules in
    let index : SFits w32 c.args.from.b = search rules in
    let step : c.step_size-step.result ≡ step_size (unsigned_abs c.args.from.b) = c.step_size-step.ensures.value ∙ ap step_size (simp to_z-of_z at c.unsigned_abs.ensures.value) in
    let order : c.args.from.a ≤ℤ c.args.target = from-test _ _ (simp to_z-of_z at c.if-from-target.true) in
    let gap : c.rise.result ≡ unsigned_abs (c.args.target -ℤ c.args.from.a) = simp to_z-of_z at c.rise.ensures.value in
    let above : c.rise-above.result ≡ unsigned_abs (pos 32767 -ℤ c.args.target) = simp to_z-of_z at c.rise-above.ensures.value in
    let below : c.rise-below.result ≡ unsigned_abs (c.args.target -ℤ negsuc 32767) = simp to_z-of_z at c.rise-below.ensures.value in
    rising-nearest c.args.from c.args.target c.step_size-step.result c.rise.result c.rise-above.result c.rise-below.result c.nearest_rising.result c.requires.target (output_of c.args.from c.requires.from)
    step order gap above below c.nearest_rising.ensures

pub returns-else-from-target-clause-value : goal.returns-else-from-target-clause-value
returns-else-from-target-clause-value c =
    let target : SFits w32 c.args.target = c.ranges.target in
    let last : SFits w32 c.args.from.a = search rules in
    let index : SFits w32 c.args.from.b = search rules in
    let step : c.step_size-step.result ≡ step_size (unsigned_abs c.args.from.b) = c.step_size-step.ensures.value ∙ ap step_size (simp to_z-of_z at c.unsigned_abs.ensures.value) in
    let order : c.args.target ≤ℤ c.args.from.a = omega (arith, ints, simp to_z-of_z at c.if-from-target.false) in
    let gap : c.rise-else-from-target.result ≡ unsigned_abs (c.args.from.a -ℤ c.args.target) = simp to_z-of_z at c.rise-else-from-target.ensures.value in
    let above : c.rise-above.result ≡ unsigned_abs (pos 32767 -ℤ c.args.target) = simp to_z-of_z at c.rise-above.ensures.value in
    let below : c.rise-below.result ≡ unsigned_abs (c.args.target -ℤ negsuc 32767) = simp to_z-of_z at c.rise-below.ensures.value in
    falling-nearest c.args.from c.args.target c.step_size-step.result c.rise-else-from-target.result c.rise-above.result c.rise-below.result c.nearest_falling.result c.requires.target (output_of c.args.from c.requires.from)
    step order gap above below c.nearest_falling.ensures
