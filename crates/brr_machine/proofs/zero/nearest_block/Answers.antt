use Rattle.std.proofs.Common.{rules, arith, ◌∙◌, ap, length, get_or, ◌<◌, pos, w32}
use mir.Val.{SFits}
use Rattle.std.proofs.lemmas.Grind.{common_steps}
use Rattle.std.proofs.lemmas.Int.{to_z-of_z}
use Rattle.linear_machine.proofs.Predictions.{ap-three}
use Rattle.brr_machine.specs.Predicted.{predicted_cost, nearest_predicted}
use Rattle.brr_machine.specs.Zero.{code_cost, nearest_code}
use Rattle.brr_machine.proofs.Fill.{codes_more, range_more}
use Rattle.brr_machine.proofs.ZeroCosts.{predicted-zero, nearest-zero}
use Rattle.brr_machine.proofs.ZeroSums.{sum_more, sum_all}
use Rattle.brr_machine.proofs.zero.nearest_block.Goals as goal

pub loop-i-preserved : goal.loop-i-preserved
loop-i-preserved c =
    let target = get_or c.args.targets.now c.loop-i.i (pos 0) in
    let shift = c.args.shift in
    let inside : c.loop-i.i < length c.loop-i.codes = omega arith in
    let within : c.loop-i.i < length c.args.targets.now = omega arith in
    let fits : SFits w32 target = search rules in
    let is = c.zero_codes-found.ensures in
    let same_target = simp to_z-of_z at is.target in
    let code = c.nearest-code.ensures.value ∙ ap-three nearest_predicted _ _ _ _ _ _ is.shift is.prediction same_target ∙ nearest-zero shift target in
    let costs = ap-three predicted_cost _ _ _ _ _ _ is.shift is.prediction same_target ∙ predicted-zero shift target in
    record {
      len = grind (arith, common_steps);
      codes = codes_more (nearest_code shift) _ _ _ _ (pos 0) inside within c.loop-i.invariant.codes code;
      sum = sum_more shift c.args.targets.now c.loop-i.i c.loop-i.sum c.cost-sum.result (omega arith) (omega arith) c.loop-i.invariant.sum
          (c.cost-sum.ensures.value ∙ ap (λ f. f c.nearest-code.result) costs ∙ ap (code_cost shift target) code);
      range = range_more _ _ _ inside c.loop-i.invariant.range c.nearest-code.ensures.range;
      bound = omega arith;
    }

pub returns-clause-sum : goal.returns-clause-sum
returns-clause-sum c = sum_all c.args.shift c.args.targets.now c.loop-i.i c.loop-i.sum (omega arith) c.loop-i.invariant.sum
