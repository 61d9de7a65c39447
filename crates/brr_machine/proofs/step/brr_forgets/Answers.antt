use Rattle.brr_machine.specs.Laws.Forgetting.{brr-forgets}
use Rattle.brr_machine.proofs.step.brr_forgets.Goals as goal

pub returns : goal.returns
returns c = brr-forgets
