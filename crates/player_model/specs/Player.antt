-- A player of stored blocks: a small machine on bytes, which knows nothing of how they were made.
use Rattle.std.specs.Prelude.{ℕ, zero, suc, ◌+◌, ◌==◌, if◌then◌else◌, ℤ, pos, Bool, false, not, ◌&&◌, List}
use Rattle.machine_core.specs.declared.state.State.{State}
use Rattle.machine_core.specs.Decoder.{Decoder}
use Rattle.player_model.specs.declared.position.Position.{Position}
use Rattle.player_model.specs.Format.{Format, ends, repeats, starts}

-- the history after the sample at a position
abbrev pub sounded : Decoder → Format → List ℕ → Position → State
sounded d f memory at = d.step (f.head_in memory at.address) at.place (f.symbol_in memory at.address at.place) at.history

-- whether a position is at the last sample of its block
abbrev pub is_last : Decoder → Position → Bool
is_last d at = suc at.place == d.samples

-- the repeat register after the block at an address: a block with the start flag sets it to itself
abbrev pub register_after : Format → List ℕ → ℕ → ℕ → ℕ
register_after f memory again address = if starts f memory address then address else again

-- after a block with the end flag comes the one in the register, which that block may have set; after any other the next one in memory
abbrev pub block_after : Format → List ℕ → ℕ → ℕ → ℕ
block_after f memory again address = if ends f memory address then register_after f memory again address else address + f.size

-- an end block that does not repeat mutes all that comes after it
abbrev pub mutes : Format → List ℕ → ℕ → Bool
mutes f memory address = ends f memory address && not (repeats f memory address)

-- the position after one sample; the history is kept over every jump
abbrev pub moved : Decoder → Format → List ℕ → Position → Position
moved d f memory at = record {
  address = if is_last d at then block_after f memory at.again at.address else at.address;
  place = if is_last d at then 0 else suc at.place;
  again = if is_last d at then register_after f memory at.again at.address else at.again;
  history = sounded d f memory at;
  muted = if is_last d at then mutes f memory at.address else false;
}

-- the same of any position: a muted player stays where it is
abbrev pub next_position : Decoder → Format → List ℕ → Position → Position
next_position d f memory at = if at.muted then at else moved d f memory at

-- what is heard at a position
abbrev pub sound : Decoder → Format → List ℕ → Position → ℤ
sound d f memory at = if at.muted then pos 0 else (sounded d f memory at).a

-- where a player begins, with a repeat register and a history
abbrev pub first_position : ℕ → ℕ → State → Position
first_position start again history = record { address = start; place = 0; again = again; history = history; muted = false }

-- the position after n samples more
abbrev pub position_after : Decoder → Format → List ℕ → Position → ℕ → Position
position_after d f memory at zero = at
position_after d f memory at (suc n) = next_position d f memory (position_after d f memory at n)

-- the position of the player that begins at `start`, with a register and a history at first, before output i
abbrev pub position_at : Decoder → Format → List ℕ → ℕ → ℕ → State → ℕ → Position
position_at d f memory start again history i = position_after d f memory (first_position start again history) i

-- output i of that player; where no block has a start flag it goes on at `again`
abbrev pub play : Decoder → Format → List ℕ → ℕ → ℕ → State → ℕ → ℤ
play d f memory start again history i = sound d f memory (position_at d f memory start again history i)
