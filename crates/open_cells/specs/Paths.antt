-- Relaxed paths over cells: they go from a cell to each cell that a piece of its image meets, at the piece's cost.
use Rattle.std.specs.Prelude.{◌≡◌, ℕ, zero, suc, ◌+◌, ◌*◌, ◌%◌, ◌<◌, ℤ, pos, true, List, length, get_or}
use Rattle.std.specs.List.{Contains}
use Rattle.adpcm_nums.specs.Sample.{AreSamples}
use Rattle.machine_core.specs.declared.boxes.Bx.{Bx}
use Rattle.machine_core.specs.declared.boxes.Cell.{Cell}
use Rattle.machine_core.specs.declared.pieces.Piece.{Piece}
use Rattle.machine_core.specs.Blocks.{first_only}
use Rattle.machine_core.specs.Boxes.{low_corner, high_corner}
use Rattle.machine_core.specs.Boxed.{IsBoxed}
use Rattle.machine_core.specs.Cells.{cell_of, cell_box, IsBetween}
use Rattle.machine_core.specs.Decoder.{start}
use Rattle.machine_core.specs.Floors.{may_take, rest}
use Rattle.machine_core.specs.Rules.{Rules, IsMachine, grid}
use Rattle.bound_cert.specs.Filed.{IsFiled}
use Rattle.box_layers.specs.Certificates.{lane_at}

-- all laws that a search leans on
pub record HasLaws (m : Rules) : Type 0 where
  pub machine : IsMachine m
  pub boxed : IsBoxed m
  pub filed : IsFiled m

-- a target for each sample of so many blocks
pub record FitTargets (m : Rules) (blocks : ℕ) (targets : List ℤ) : Type 0 where
  pub count : length targets ≡ blocks * m.decoder.samples
  pub range : AreSamples targets

-- a piece of a cell's image at sample i, in a lane; it leads to another lane
pub record IsStep (m : Rules) (targets : List ℤ) (level i lane : ℕ) (cell : Cell) (q : Piece) (to : ℕ) : Type 0 where
  pub head : ℕ
  pub head_fits : head < m.decoder.heads
  pub takes : may_take m first_only i lane head ≡ true
  pub symbol : ℕ
  pub symbol_fits : symbol < m.decoder.symbols (i % m.decoder.samples)
  pub is_piece : Contains (m.image head (i % m.decoder.samples) symbol (cell_box (grid m) level cell) (get_or targets i (pos 0))) q
  pub leads : to ≡ lane_at m head (suc i)

-- the box meets the cell
abbrev pub Meets : Rules → ℕ → Bx → Cell → Type 0
Meets m level bx c = IsBetween (cell_of (grid m) level (low_corner bx)) (cell_of (grid m) level (high_corner bx)) c

-- an open path of this cost leads to a cell before sample i: at each of its cells the cost so far and the floor under what is left are below `most`
abbrev pub Opens : Rules → List ℤ → ℕ → ℕ → ℕ → ℕ → ℕ → Cell → ℕ → Type 0
Opens m targets blocks level most zero lane cell cost =
    (lane ≡ 65535) × (cell ≡ cell_of (grid m) level start) × (cost ≡ 0)
    × (cost + rest m first_only targets blocks zero lane (cell_box (grid m) level cell) < most)
Opens m targets blocks level most (suc i) lane cell cost =
    (lane' : ℕ) × (cell' : Cell) × (cost' : ℕ) × (q : Piece)
    × Opens m targets blocks level most i lane' cell' cost' × IsStep m targets level i lane' cell' q lane × Meets m level q.bx cell
    × (suc i < blocks * m.decoder.samples) × (cost ≡ cost' + q.cost)
    × (cost + rest m first_only targets blocks (suc i) lane (cell_box (grid m) level cell) < most)

-- a relaxed path of this cost, open or not
abbrev pub Leads : Rules → List ℤ → ℕ → ℕ → ℕ → Cell → ℕ → Type 0
Leads m targets level zero lane cell cost = (lane ≡ 65535) × (cell ≡ cell_of (grid m) level start) × (cost ≡ 0)
Leads m targets level (suc i) lane cell cost =
    (lane' : ℕ) × (cell' : Cell) × (cost' : ℕ) × (q : Piece)
    × Leads m targets level i lane' cell' cost' × IsStep m targets level i lane' cell' q lane × Meets m level q.bx cell
    × (cost ≡ cost' + q.cost)

-- a relaxed path of this cost leads to the end of the segment
pub record IsWhole (m : Rules) (targets : List ℤ) (blocks level cost : ℕ) : Type 0 where
  pub i : ℕ
  pub lane : ℕ
  pub cell : Cell
  pub before : ℕ
  pub q : Piece
  pub to : ℕ
  pub leads : Leads m targets level i lane cell before
  pub last : suc i ≡ blocks * m.decoder.samples
  pub step : IsStep m targets level i lane cell q to
  pub costs : cost ≡ before + q.cost
