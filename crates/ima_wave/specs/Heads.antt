-- The blocks of a file: all whole ones, or the first that does not begin with the head of a block.
use Rattle.std.specs.Prelude.{◌≡◌, ◌≤◌, ◌<◌, ℕ, zero, suc, ◌+◌, ◌*◌, ◌/◌, ◌%◌, List, length, take, Option, Some, None, option_map, Result, Ok, Err}
use Rattle.std.specs.Option.{option_or}
use Rattle.ima_machine.specs.Faults.{fault_in}
use Rattle.ima_wave.specs.declared.fault.ImaWaveFault.{ImaWaveFault}
use Rattle.ima_wave.specs.declared.fault.ImaWaveFault.TheVariants.{BadHead}

-- how many whole blocks bytes have, and those blocks
abbrev pub block_count : ℕ → List ℕ → ℕ
block_count align bytes = length bytes / align

abbrev pub whole_blocks : ℕ → List ℕ → List ℕ
whole_blocks align bytes = take (block_count align bytes * align) bytes

-- what is wrong with the head of a block
abbrev pub block_fault : ℕ → List ℕ → ℕ → Option ImaWaveFault
block_fault align bytes block = option_map (BadHead block) (fault_in bytes (block * align))

-- what is wrong with the first bad head of `count` blocks from a block on
unfoldable pub first_bad_head : ℕ → List ℕ → ℕ → ℕ → Option ImaWaveFault
first_bad_head align bytes zero block = None
first_bad_head align bytes (suc count) block = option_or (block_fault align bytes block) (first_bad_head align bytes count (block + 1))

-- the whole blocks, unless one has a bad head
abbrev pub unless : {A : Type 0} → Option ImaWaveFault → A → Result A ImaWaveFault
unless None x = Ok x
unless (Some fault) x = Err fault

unfoldable pub blocks_of : ℕ → List ℕ → Result (List ℕ) ImaWaveFault
blocks_of align bytes = unless (first_bad_head align bytes (block_count align bytes) 0) (whole_blocks align bytes)

-- the whole blocks of bytes, each with the head of a block
pub record AreBlocks (align : ℕ) (bytes blocks : List ℕ) : Type 0 where
  pub whole : length blocks % align ≡ 0
  pub count : block_count align blocks ≡ block_count align bytes
  pub within : length blocks ≤ length bytes
  pub heads : (b : ℕ) → b < block_count align blocks → fault_in blocks (b * align) ≡ None
