use Rattle.std.proofs.Common.{refl}
use Rattle.machine_core.specs.Rules.{grid}
use Rattle.spu_machine.specs.SpuRules.{spu_rules}
use Rattle.spu_machine.proofs.machine.SpuMachine.cell_of.Goals as goal

pub returns : goal.returns
returns c = c.cell_of.ensures (grid spu_rules) refl
