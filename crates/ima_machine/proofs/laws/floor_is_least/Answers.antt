use Rattle.ima_machine.specs.Laws.LeastSums.{sums-above, sums-reached}
use Rattle.ima_machine.proofs.laws.floor_is_least.Goals as goal

pub returns : goal.returns
returns c = record { below = sums-above; reached = sums-reached }
