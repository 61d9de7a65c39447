-- What every stored format keeps.
use Rattle.std.specs.Prelude.{◌≡◌, ℕ, ◌+◌, ◌<◌, IsTrue, List, length, get_or}
use Rattle.machine_core.specs.declared.state.State.{State}
use Rattle.machine_core.specs.Decoder.{Decoder, Forgets, start}
use Rattle.block_flags.specs.Flags.{flag_bound}
use Rattle.player_model.specs.Format.{Format}

-- all numbers of a memory are bytes
abbrev pub AreBytes : List ℕ → Type 0
AreBytes memory = (i : ℕ) → get_or memory i 0 < 256

-- the bytes of a block, or any others, stand in a memory from an address on
abbrev pub StandAt : List ℕ → ℕ → List ℕ → Type 0
StandAt memory address bytes = (j : ℕ) → j < length bytes → get_or memory (address + j) 0 ≡ get_or bytes j 0

-- a block may have this head and these symbols
pub record FitsBlock (d : Decoder) (head : ℕ) (symbols : List ℕ) : Type 0 where
  pub head_fits : head < d.heads
  pub count : length symbols ≡ d.samples
  pub symbols_fit : (p : ℕ) → p < d.samples → get_or symbols p 0 < d.symbols p

-- a block with this head, these flags and symbols is spelled from an address of a memory on
pub record IsSpelled (d : Decoder) (f : Format) (memory : List ℕ) (address head flags : ℕ) (symbols : List ℕ) : Type 0 where
  pub fits : FitsBlock d head symbols
  pub flags_fit : flags < flag_bound f.kind
  pub stands : StandAt memory address (f.spelling head flags symbols)

-- the format of a decoder's blocks
pub record IsStoredFormat (d : Decoder) (f : Format) : Type 0 where
  pub some_bytes : 0 < f.size
  pub forgets : Forgets d
  pub start_fits : IsTrue (d.is_state start)
  -- a step leads from a state to a state
  pub steps : (head p symbol : ℕ) (at : State) → head < d.heads → p < d.samples → symbol < d.symbols p
      → IsTrue (d.is_state at) → IsTrue (d.is_state (d.step head p symbol at))
  -- whatever the bytes, they hold symbols of the decoder
  pub symbols_fit : (memory : List ℕ) (address p : ℕ) → AreBytes memory → p < d.samples → f.symbol_in memory address p < d.symbols p
  -- each block is as long as any other
  pub length_is : (head flags : ℕ) (symbols : List ℕ) → FitsBlock d head symbols → length (f.spelling head flags symbols) ≡ f.size
  -- a spelled block is read as what it was spelled from, wherever it stands
  pub head_kept : (memory : List ℕ) (address head flags : ℕ) (symbols : List ℕ) → IsSpelled d f memory address head flags symbols
      → f.head_in memory address ≡ head
  pub flags_kept : (memory : List ℕ) (address head flags : ℕ) (symbols : List ℕ) → IsSpelled d f memory address head flags symbols
      → f.flags_in memory address ≡ flags
  pub symbols_kept : (memory : List ℕ) (address head flags : ℕ) (symbols : List ℕ) → IsSpelled d f memory address head flags symbols
      → (p : ℕ) → p < d.samples → f.symbol_in memory address p ≡ get_or symbols p 0
