use Rattle.std.proofs.Common.{refl}
use Rattle.machine_core.specs.Rules.{grid}
use Rattle.brr_machine.specs.BrrRules.{brr_rules}
use Rattle.brr_machine.proofs.machine.BrrMachine.cell_box.Goals as goal

pub returns : goal.returns
returns c = c.cell_box.ensures (grid brr_rules) refl
