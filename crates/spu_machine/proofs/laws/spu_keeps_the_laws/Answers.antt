use Rattle.spu_machine.specs.Laws.{spu_is_machine}
use Rattle.spu_machine.proofs.laws.spu_keeps_the_laws.Goals as goal

pub returns : goal.returns
returns c = spu_is_machine
