-- A list of blocks as it stands in a memory, whatever spells it.
use Rattle.std.proofs.Common.{◌≡◌, ℕ, ◌+◌, ◌*◌, ◌<◌, List, get_or}
use Rattle.machine_core.specs.Decoder.{Decoder}
use Rattle.machine_core.specs.Blocks.{Blocks}
use Rattle.player_model.specs.Format.{Format}
use Rattle.player_model.specs.Track.{Track}

-- the head and the symbols of block b stand at an address
pub record IsKept (d : Decoder) (f : Format) (memory : List ℕ) (address : ℕ) (list : Blocks) (b : ℕ) : Type 0 where
  pub head : f.head_in memory address ≡ get_or list.heads b 0
  pub symbols : (p : ℕ) → p < d.samples → f.symbol_in memory address p ≡ get_or list.symbols (b * d.samples + p) 0

-- the blocks of a track are those of a list
abbrev pub Keeps : Decoder → Format → Track → Blocks → Type 0
Keeps d f t list = (b : ℕ) → b < t.blocks → IsKept d f t.memory (t.start + f.size * b) list b
