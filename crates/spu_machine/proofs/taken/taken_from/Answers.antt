use Rattle.std.proofs.Common.{rules, arith, refl, ◌∙◌, ◌/◌, w32, ◌%◌}
use mir.Val.{SFits}
use Rattle.std.proofs.lemmas.Int.{to_z-of_z}
use Rattle.linear_machine.proofs.Predictions.{ap-three, taken-is}
use Rattle.spu_machine.specs.Spu.{prediction_of, raw_of, output_of}
use Rattle.spu_machine.specs.Predicted.{predicted_output, predicted_cost, nearest_predicted}
use Rattle.spu_machine.specs.Floors.{spu_linear}
use Rattle.spu_machine.specs.Laws.Linear.{spu_is_linear}
use Rattle.spu_machine.proofs.taken.taken_from.Goals as goal

pub returns : goal.returns
unfolding nearest_predicted predicted_cost predicted_output raw_of output_of
returns c =
    let target : SFits w32 c.args.target = c.ranges.target in
    let last : SFits w32 c.args.from.a = search rules in
    let older : SFits w32 c.args.from.b = search rules in
    let output : SFits w32 c.output-output.result = search rules in
    let is = c.codes_after-codes.ensures in
    let same_target = simp to_z-of_z at is.target in
    let costs = simp to_z-of_z at c.output_cost.ensures in
    let sound = predicted_output (c.args.head % 16) (prediction_of (c.args.head / 16) c.args.from.a c.args.from.b) in
    simp to_z-of_z
    (taken-is spu_linear spu_is_linear c.args.head 0 c.args.from c.args.target sound (omega arith) (λ code. refl) c.nearest-symbol.result c.output-output.result c.output_cost.result
    (c.nearest-symbol.ensures.value ∙ ap-three nearest_predicted _ _ _ _ _ _ is.shift is.prediction same_target)
    (c.output-output.ensures.value ∙ ap-three (λ s p t. predicted_output s p c.nearest-symbol.result) _ _ _ _ _ _ is.shift is.prediction same_target) costs)
