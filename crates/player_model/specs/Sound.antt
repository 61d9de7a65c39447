-- What is known of a track and of a player on it.
use Rattle.std.specs.Prelude.{◌≡◌, ℕ, suc, ◌+◌, ◌-◌, ◌*◌, ◌<◌, ◌≤◌, ◌==◌, ◌⊎◌, ℤ, true, false, IsTrue, List, length, slice_range}
use Rattle.machine_core.specs.Decoder.{Decoder, start}
use Rattle.player_model.specs.declared.position.Position.{Position}
use Rattle.player_model.specs.Format.{Format}
use Rattle.player_model.specs.Player.{position_at, play}
use Rattle.player_model.specs.Track.{Track, ends_at, repeats_at, is_block, register_at, end_register}

-- the blocks from the start fit into the memory and have heads of the decoder, the last alone ends, and where it repeats the player goes on at one of them
pub record IsTrack (d : Decoder) (f : Format) (t : Track) : Type 0 where
  pub some : 0 < t.blocks
  pub fits : t.start + f.size * t.blocks ≤ length t.memory
  pub heads_fit : (b : ℕ) → b < t.blocks → f.head_in t.memory (t.start + f.size * b) < d.heads
  pub ends : (b : ℕ) → b < t.blocks → ends_at f t.memory t.start b ≡ (suc b == t.blocks)
  pub returns : repeats_at f t.memory t.start (t.blocks - 1) ≡ true → is_block f t.start t.blocks (end_register f t) ≡ true

-- the bytes of its blocks
abbrev pub track_bytes : Format → Track → List ℕ
track_bytes f t = slice_range t.memory t.start (t.start + f.size * t.blocks)

-- the register is what the blocks before block b left in the first playing, or what all of them leave, from the loop's first block on
abbrev pub IsRegister : Format → Track → ℕ → ℕ → Type 0
IsRegister f t b again = (again ≡ register_at f t.memory t.start t.again b) ⊎ ((again ≡ end_register f t) × (end_register f t ≤ t.start + f.size * b))

-- a position in block b of a track
pub record IsAt (d : Decoder) (f : Format) (t : Track) (b : ℕ) (at : Position) : Type 0 where
  pub block_fits : b < t.blocks
  pub address_is : at.address ≡ t.start + f.size * b
  pub place_fits : at.place < d.samples
  pub again_is : IsRegister f t b at.again

-- in one of its blocks, with a history in range
pub record IsInside (d : Decoder) (f : Format) (t : Track) (at : Position) : Type 0 where
  pub block : ℕ
  pub here : IsAt d f t block at
  pub history_fits : IsTrue (d.is_state at.history)

-- unless all is silent
abbrev pub IsSound : Decoder → Format → Track → Position → Type 0
IsSound d f t at = at.muted ≡ false → IsInside d f t at

-- what the player of a track holds before output i; its history is (0, 0) at first
abbrev pub track_position : Decoder → Format → Track → ℕ → Position
track_position d f t i = position_at d f t.memory t.start t.again start i

-- output i of the player of a track
abbrev pub heard : Decoder → Format → Track → ℕ → ℤ
heard d f t i = play d f t.memory t.start t.again start i

-- what a caller sees of a player: its track, and how many outputs it gave
pub record Playing : Type 0 where
  pub track : Track
  pub count : ℕ

-- a player that stands where it has to
pub record HasPlayed (d : Decoder) (f : Format) (t : Track) (at : Position) (count : ℕ) : Type 0 where
  pub track_is : IsTrack d f t
  pub inside : IsSound d f t at
  pub at_is : at ≡ track_position d f t count
