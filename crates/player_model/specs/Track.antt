-- The blocks that a player comes to from a start, and where it goes on after them.
use Rattle.std.specs.Prelude.{ℕ, ◌+◌, ◌-◌, ◌*◌, ◌/◌, ◌%◌, ◌==◌, ◌&&◌, nat_le, nat_lt, if◌then◌else◌, Bool, List, length, Option, Some, None}
use Rattle.adpcm_nums.specs.First.{first_where}
use Rattle.block_flags.specs.Last.{last_where}
use Rattle.player_model.specs.Format.{Format, ends, repeats, starts}

-- what a caller sees of a track: the memory, two addresses in it, and the blocks up to the first with the end flag
pub record Track : Type 0 where
  pub memory : List ℕ
  -- the address of the first block
  pub start : ℕ
  -- what the player's repeat register is at first
  pub again : ℕ
  pub blocks : ℕ

-- whole blocks from an address to the memory's end
abbrev pub whole_blocks : Format → List ℕ → ℕ → ℕ
whole_blocks f memory start = (length memory - start) / f.size

-- whether a block has the end flag
abbrev pub ends_at : Format → List ℕ → ℕ → ℕ → Bool
ends_at f memory start block = ends f memory (start + f.size * block)

-- whether it has the repeat flag
abbrev pub repeats_at : Format → List ℕ → ℕ → ℕ → Bool
repeats_at f memory start block = repeats f memory (start + f.size * block)

-- and whether it has the start flag
abbrev pub starts_at : Format → List ℕ → ℕ → ℕ → Bool
starts_at f memory start block = starts f memory (start + f.size * block)

-- the first block with the end flag
abbrev pub end_block : Format → List ℕ → ℕ → Option ℕ
end_block f memory start = first_where (ends_at f memory start) (whole_blocks f memory start)

-- whether an address is that of one of so many blocks
abbrev pub is_block : Format → ℕ → ℕ → ℕ → Bool
is_block f start blocks address = nat_le start address && ((address - start) % f.size == 0 && nat_lt ((address - start) / f.size) blocks)

-- the repeat register, once a block set it
abbrev pub set_to : Format → ℕ → ℕ → Option ℕ → ℕ
set_to f start again None = again
set_to f start again (Some block) = start + f.size * block

-- the repeat register after so many blocks: the last of them with the start flag set it
abbrev pub register_at : Format → List ℕ → ℕ → ℕ → ℕ → ℕ
register_at f memory start again blocks = set_to f start again (last_where (starts_at f memory start) blocks)

-- the repeat register after a track's blocks
abbrev pub end_register : Format → Track → ℕ
end_register f t = register_at f t.memory t.start t.again t.blocks

-- the block that comes after the last one, where that repeats
abbrev pub loop_block_of : Format → Track → Option ℕ
loop_block_of f t = if repeats_at f t.memory t.start (t.blocks - 1) then Some ((end_register f t - t.start) / f.size) else None
