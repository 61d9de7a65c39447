use Rattle.linear_machine.specs.Laws.Steps.{same-step}
use Rattle.spu_machine.specs.Spu.{spu, output_of}
use Rattle.spu_machine.specs.Laws.Forgetting.{spu-steps}
use Rattle.spu_machine.specs.Laws.Lanes.{same-output}
use Rattle.spu_machine.proofs.laws.lanes_act_alike.Goals as goal

pub returns : goal.returns
returns c = λ g h place code from same. same-step spu output_of spu-steps g h place code from (same-output g h code from.a from.b same)
