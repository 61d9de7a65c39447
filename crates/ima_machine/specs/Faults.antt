-- Why the bytes at an address are no block.
use Rattle.std.specs.Prelude.{ℕ, ◌+◌, nat_lt, ◌==◌, if◌then◌else◌, List, get_or, Option, Some, None}
use Rattle.ima_machine.specs.declared.fault.ImaFault.{ImaFault}
use Rattle.ima_machine.specs.declared.fault.ImaFault.TheVariants.{BadIndex, BadReserved}

-- the fault of a step index and the byte behind it
abbrev pub head_fault : ℕ → ℕ → Option ImaFault
head_fault index value = if nat_lt 88 index then Some (BadIndex index) else (if value == 0 then None else Some (BadReserved value))

-- the first fault of a block's bytes
abbrev pub fault_in : List ℕ → ℕ → Option ImaFault
fault_in memory address = head_fault (get_or memory (address + 2) 0) (get_or memory (address + 3) 0)
