use Rattle.std.proofs.Common.{rules, arith, refl, ◌∙◌, ◌/◌, ◌%◌, w32}
use mir.Val.{SFits}
use Rattle.std.proofs.lemmas.Int.{to_z-of_z}
use Rattle.linear_machine.proofs.Predictions.{ap-three, nearest-is}
use Rattle.brr_machine.specs.Brr.{prediction_of, raw_of, output_of}
use Rattle.brr_machine.specs.Predicted.{predicted_output, predicted_cost, nearest_predicted}
use Rattle.brr_machine.specs.Floors.{brr_linear}
use Rattle.brr_machine.specs.Laws.Linear.{brr_is_linear}
use Rattle.brr_machine.proofs.machine.BrrMachine.nearest.Goals as goal

pub returns : goal.returns
unfolding nearest_predicted predicted_cost predicted_output raw_of output_of
returns c =
    let target : SFits w32 c.args.target = c.ranges.target in
    let last : SFits w32 c.args.from.a = search rules in
    let older : SFits w32 c.args.from.b = search rules in
    let is = c.codes_after.ensures in
    let sound = predicted_output (c.args.head / 4) (prediction_of (c.args.head % 4) c.args.from.a c.args.from.b) in
    c.nearest.ensures.value
    ∙ ap-three nearest_predicted _ _ _ _ _ _ is.shift is.prediction (simp to_z-of_z at is.target)
    ∙ nearest-is brr_linear brr_is_linear c.args.head c.args._pos c.args.from c.args.target sound (omega arith) (λ code. refl)
