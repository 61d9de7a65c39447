-- A certificate of a level as what it shows.
use Rattle.std.specs.Prelude.{◌≡◌, ◌≢◌, ℕ, ◌*◌, ◌≤◌, ℤ, IsTrue, List, length}
use Rattle.std.specs.List.{Contains}
use Rattle.box_layers.specs.Certificates.{Certificate, IsAccepted, value}
use Rattle.machine_core.specs.Cells.{is_cell}
use Rattle.machine_core.specs.Rules.{Rules, grid}
use Rattle.open_cells.specs.declared.node.Node.{Node}
use Rattle.open_cells.specs.Counts.{nodes_at, count_of}
use Rattle.open_cells.specs.Nodes.{IsRising}
use Rattle.branch_bound.specs.Searched.{IsSearched}
use Rattle.branch_bound.specs.Worth.{layers_certificate}
use Rattle.branch_bound.specs.declared.levels.LevelCert.{LevelCert}

abbrev pub level_certificate : LevelCert → Certificate
level_certificate c = layers_certificate c.level c.blocks c.layers

-- an accepted certificate with the bound that it shows
pub record IsCert (m : Rules) (targets : List ℤ) (c : LevelCert) : Type 0 where
  pub accepted : IsAccepted m targets (level_certificate c)
  pub bound : c.bound ≡ value m targets (level_certificate c)

-- what the certificate of a segment of so many blocks has, where `most` is the sum that is to be beaten
pub record IsShown (m : Rules) (targets : List ℤ) (blocks most share : ℕ) (c : LevelCert) : Type 0 where
  pub blocks_are : c.blocks ≡ blocks
  -- it is the natural one, unless it is of the floors alone
  pub searched : c.level ≢ 255 → IsSearched m targets most (level_certificate c)
  pub none_listed : c.level ≡ 255 → length c.layers ≡ 0
  pub cert : IsCert m targets c
  -- it lists at most `share` cells
  pub size : count_of (nodes_at c.layers) (blocks * m.decoder.samples) ≤ share
  pub rows : length c.layers ≤ blocks * m.decoder.samples
  pub few_cells : (i : ℕ) → length (nodes_at c.layers i) ≤ share
  pub rising : (i : ℕ) → IsRising (nodes_at c.layers i)
  pub cells : (i : ℕ) (x : Node) → Contains (nodes_at c.layers i) x → IsTrue (is_cell (grid m) c.level x.cell)
  -- and none of a value above that sum
  pub values : (i : ℕ) (x : Node) → Contains (nodes_at c.layers i) x → x.cost ≤ most
