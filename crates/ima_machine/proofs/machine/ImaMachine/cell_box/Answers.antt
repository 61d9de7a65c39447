use Rattle.std.proofs.Common.{refl}
use Rattle.machine_core.specs.Rules.{grid}
use Rattle.ima_machine.specs.Ima.{samples_in}
use Rattle.ima_machine.specs.ImaRules.{ima_rules}
use Rattle.ima_machine.proofs.machine.ImaMachine.cell_box.Goals as goal

pub returns : goal.returns
returns c = c.cell_box.ensures (grid (ima_rules (samples_in c.args.self.now.align))) refl
