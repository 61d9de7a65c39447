use Rattle.std.proofs.Common.{rules, ◌-◌, ◌^◌, ap, ◌∙◌, w64}
use Rattle.std.specs.Prelude.{pos}
use mir.Val.{SFits}
use Rattle.std.proofs.lemmas.Int.{to_z-of_z}
use Rattle.spu_machine.proofs.LevelLaws.{levels_multiplied}
use Rattle.spu_machine.proofs.levels.quantizer.Goals as goal

pub returns : goal.returns
returns c =
    let step : SFits w64 c.level_step.result = search rules in
    simp to_z-of_z (levels_multiplied c.args.shift c.level_step.result (c.level_step.ensures.value ∙ ap (λ n. pos (2 ^ (12 - n))) c.acting_shift.ensures.value))
