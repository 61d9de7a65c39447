-- Outputs of a block under a head, one after another, and what they cost against targets.
use Rattle.std.specs.Prelude.{ℕ, ◌+◌, ◌*◌, ℤ, ◌-ℤ◌, ◌*ℤ◌, Bool, if◌then◌else◌, nat_lt, List, [], ◌∷◌, length}
use Rattle.adpcm_nums.specs.Nums.{square_of}
use Rattle.adpcm_nums.specs.Sample.{IsSample}
use Rattle.window_floor.specs.Windows.{Windows}
use Rattle.window_floor.specs.Clamps.{MayCome}

-- how often the error of a place is counted, with so many places of the block after it: the last two once where the next block counts them again
unfoldable pub weight_of : Bool → ℕ → ℕ
weight_of leaving after = if leaving then (if nat_lt after 2 then 1 else 2) else 2

-- outputs for these targets that follow r and o, which have 16 bits and whose targets are tr and to, and what they cost
pub data Outputs (b : Windows) (leaving : Bool) : List ℤ → (tr to r o : ℤ) → ℕ → Type 0 where
  ends : (tr to r o : ℤ) → Outputs b leaving [] tr to r o 0
  goes : (tx : ℤ) (ts : List ℤ) (tr to r o y : ℤ) (c : ℕ) → IsSample r → IsSample o → MayCome b r o y → Outputs b leaving ts to tx o y c
      → Outputs b leaving (tx ∷ ts) tr to r o (weight_of leaving (length ts) * square_of (b.row.scale *ℤ y -ℤ tx) + c)
