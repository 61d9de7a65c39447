-- What a search shows of a segment.
use Rattle.std.specs.Prelude.{◌≡◌, ◌≢◌, ℕ, ◌≤◌, ◌<◌, ◌⊎◌, ℤ, List, length, Some, min, ◌/◌}
use Rattle.machine_core.specs.declared.boxes.Cell.{Cell}
use Rattle.machine_core.specs.declared.choice.Choice.{Choice}
use Rattle.machine_core.specs.Blocks.{Blocks, IsLegal, first_only}
use Rattle.machine_core.specs.Rules.{Rules}
use Rattle.machine_core.specs.Sums.{sum_of}
use Rattle.bound_cert.specs.Content.{Plain}
use Rattle.bound_cert.specs.Spelling.{IsWritable}
use Rattle.box_layers.specs.Certificates.{Certificate, IsAccepted, found, value}
use Rattle.cert_check.specs.Layers.{certificate_of}
use Rattle.open_cells.specs.Counts.{IsFew, IsMany}
use Rattle.open_cells.specs.Paths.{Opens}
use Rattle.branch_bound.specs.Keyed.{cell_total}

-- the natural certificate lists each cell that an open path reaches, with no less than the lesser of `most` and what is found, and no other
pub record IsSearched (m : Rules) (targets : List ℤ) (most : ℕ) (c : Certificate) : Type 0 where
  pub all : (i lane : ℕ) (cell : Cell) (cost : ℕ) → Opens m targets c.blocks c.level most i lane cell cost → (v : ℕ) × (c.listed i lane cell ≡ Some v)
  pub only : (i lane : ℕ) (cell : Cell) (v : ℕ) → c.listed i lane cell ≡ Some v → (cost : ℕ) × Opens m targets c.blocks c.level most i lane cell cost
  pub worth : (i lane : ℕ) (cell : Cell) (v : ℕ) → c.listed i lane cell ≡ Some v → min most (found m targets c i lane cell) ≤ v

-- a sum that some legal list has
pub record IsSum (m : Rules) (blocks : ℕ) (targets : List ℤ) (most : ℕ) : Type 0 where
  pub list : Blocks
  pub legal : IsLegal m.decoder blocks first_only list
  pub sum : most ≡ sum_of m.decoder list targets blocks

-- a choice as a list of blocks
abbrev pub blocks_of : Choice → Blocks
blocks_of c = record { heads = c.heads; symbols = c.symbols }

-- a legal list with its sum
pub record IsChoice (m : Rules) (blocks : ℕ) (targets : List ℤ) (c : Choice) : Type 0 where
  pub legal : IsLegal m.decoder blocks first_only (blocks_of c)
  pub sum : c.sum ≡ sum_of m.decoder (blocks_of c) targets blocks

-- the first level of 0, 4 and 8 at which no more than `share` cells are reached, in a segment of at most 64 blocks; 255 where there is none
abbrev pub IsLevel : Rules → List ℤ → ℕ → ℕ → ℕ → ℕ → Type 0
IsLevel m targets blocks most share level =
    ((blocks ≤ 64) × (level ≡ 0) × IsFew m targets blocks 0 most share)
    ⊎ (((blocks ≤ 64) × (level ≡ 4) × IsMany m targets blocks 0 most share × IsFew m targets blocks 4 most share)
    ⊎ (((blocks ≤ 64) × (level ≡ 8) × IsMany m targets blocks 0 most share × IsMany m targets blocks 4 most share × IsFew m targets blocks 8 most share)
    ⊎ ((level ≡ 255) × ((64 < blocks) ⊎ (IsMany m targets blocks 0 most share × IsMany m targets blocks 4 most share × IsMany m targets blocks 8 most share)))))

-- how many blocks these targets are
abbrev pub blocks_in : Rules → List ℤ → ℕ
blocks_in m targets = length targets / m.decoder.samples

-- the certificate of a stored segment
abbrev pub stored_certificate : Rules → Plain → Certificate
stored_certificate m p = certificate_of m p.layers p.level p.blocks

-- a stored segment can be written, lists at most `share` cells, is the natural one where it is not of the floors alone, and shows its bound
pub record IsStored (m : Rules) (targets : List ℤ) (most share : ℕ) (p : Plain) : Type 0 where
  pub writable : IsWritable m.kind m.decoder.samples p
  pub few_cells : cell_total p.layers ≤ share
  pub searched : p.level ≢ 255 → IsSearched m targets most (stored_certificate m p)
  pub accepted : IsAccepted m targets (stored_certificate m p)
  pub bound : p.bound ≡ value m targets (stored_certificate m p)
