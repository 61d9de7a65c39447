-- How blocks lie in a memory.
use Rattle.std.specs.Prelude.{ℕ, Bool, List}
use Rattle.machine_core.specs.declared.state.Kind.{Kind}
use Rattle.block_flags.specs.Flags.{has_end, has_repeat, has_start}

-- a way to store blocks
pub record Format : Type 0 where
  -- whose flags the blocks have
  pub kind : Kind
  -- bytes in a block
  pub size : ℕ
  -- head, flags and symbols: the bytes of the block
  pub spelling : ℕ → ℕ → List ℕ → List ℕ
  -- memory and address: the head of the block that begins there
  pub head_in : List ℕ → ℕ → ℕ
  -- memory and address: its flags
  pub flags_in : List ℕ → ℕ → ℕ
  -- memory, address and place: its symbol at that place
  pub symbol_in : List ℕ → ℕ → ℕ → ℕ

-- whether the block at an address ends the sample
abbrev pub ends : Format → List ℕ → ℕ → Bool
ends f memory address = has_end (f.flags_in memory address)

-- whether the player then goes on with the loop
abbrev pub repeats : Format → List ℕ → ℕ → Bool
repeats f memory address = has_repeat (f.flags_in memory address)

-- whether the loop begins at it
abbrev pub starts : Format → List ℕ → ℕ → Bool
starts f memory address = has_start f.kind (f.flags_in memory address)
