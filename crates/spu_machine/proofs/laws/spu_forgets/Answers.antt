use Rattle.spu_machine.specs.Laws.Forgetting.{spu-forgets}
use Rattle.spu_machine.proofs.laws.spu_forgets.Goals as goal

pub returns : goal.returns
returns c = spu-forgets
