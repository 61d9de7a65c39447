use Rattle.brr_machine.proofs.ZeroSums.{zero-least}
use Rattle.brr_machine.proofs.zero.zero_is_least.Goals as goal

pub returns : goal.returns
returns c = zero-least
