use Rattle.std.proofs.Common.{◌≡◌, length}
use Rattle.adpcm_nums.specs.LeastValue.{least}
use Rattle.machine_core.specs.Floors.{allowed_floor, top}
use Rattle.ima_machine.specs.ImaRules.{ima_rules}
use Rattle.ima_machine.proofs.chain.least_floor.Given as goal

abbrev pub invariant-loop-index : goal.invariant-loop-index
invariant-loop-index l = l.least ≡ least l.index (allowed_floor (ima_rules (length l.targets)) l.fn.rule l.targets) top
