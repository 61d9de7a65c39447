-- How boxes of states go on, and how states are cut into cells.
use Rattle.std.specs.Prelude.{◌≡◌, ◌⊎◌, ℕ, ◌+◌, ◌^◌, ◌<◌, ◌≤◌, ◌==◌, if◌then◌else◌, ℤ, IsTrue, List, [], ◌∷◌}
use Rattle.std.specs.List.{Contains}
use Rattle.adpcm_nums.specs.Sample.{IsSample}
use Rattle.machine_core.specs.declared.state.State.{State}
use Rattle.machine_core.specs.declared.boxes.Bx.{Bx}
use Rattle.machine_core.specs.declared.boxes.Cell.{Cell}
use Rattle.machine_core.specs.declared.pieces.Piece.{Piece}
use Rattle.machine_core.specs.Boxes.{InBox, IsCovered, point_box, low_corner, high_corner}
use Rattle.machine_core.specs.Cells.{is_level, cell_of, cell_box, is_cell, IsBetween}
use Rattle.machine_core.specs.Decoder.{Decoder, cost_of}
use Rattle.machine_core.specs.Rules.{Rules, grid}

-- the place after place p, which is 0 after the last
abbrev pub place_after : Decoder → ℕ → ℕ
place_after d p = if p + 1 == d.samples then 0 else p + 1

-- a head, a place and a symbol of the decoder
pub record IsMove (r : Rules) (head p symbol : ℕ) : Type 0 where
  pub head_fits : head < r.decoder.heads
  pub place_fits : p < r.decoder.samples
  pub symbol_fits : symbol < r.decoder.symbols p

-- what every decoder keeps of boxes and cells, beside the laws of IsMachine
pub record IsBoxed (r : Rules) : Type 0 where
  -- from every state of a box the step lies in a piece that is no dearer
  pub covers : (head p symbol : ℕ) (bx : Bx) (target : ℤ) (at : State) → IsMove r head p symbol → IsTrue (r.is_box p bx) → IsSample target
      → IsTrue (r.decoder.is_state at) → InBox at bx
      → IsCovered (r.image head p symbol bx target) (r.decoder.step head p symbol at) (cost_of r.decoder (r.decoder.step head p symbol at) target)
  -- the box of one state has one piece: the step and its cost
  pub single : (head p symbol : ℕ) (target : ℤ) (at : State) → IsMove r head p symbol → IsSample target → IsTrue (r.decoder.is_state at)
      → r.image head p symbol (point_box at) target
      ≡ record { bx = point_box (r.decoder.step head p symbol at); cost = cost_of r.decoder (r.decoder.step head p symbol at) target } ∷ []
  -- pieces are boxes at the place after
  pub pieces_fit : (head p symbol : ℕ) (bx : Bx) (target : ℤ) (q : Piece) → IsMove r head p symbol → IsTrue (r.is_box p bx) → IsSample target
      → Contains (r.image head p symbol bx target) q → IsTrue (r.is_box (place_after r.decoder p) q.bx)
  -- of small cost
  pub pieces_small : (head p symbol : ℕ) (bx : Bx) (target : ℤ) (q : Piece) → IsMove r head p symbol → IsTrue (r.is_box p bx) → IsSample target
      → Contains (r.image head p symbol bx target) q → q.cost ≤ 2 ^ 34
  -- heads that have one lane at a later place lead boxes alike
  pub images_alike : (g h p symbol : ℕ) (bx : Bx) (target : ℤ) → g < r.decoder.heads → h < r.decoder.heads → 0 < p → p < r.decoder.samples
      → r.lane g p ≡ r.lane h p → r.image g p symbol bx target ≡ r.image h p symbol bx target
  -- the symbols that may cost at most the slack are symbols
  pub spans : (p : ℕ) (target : ℤ) (slack : ℕ) → p < r.decoder.samples → IsSample target
      → (r.first_symbol p target slack ≤ r.last_symbol p target slack) × (r.last_symbol p target slack < r.decoder.symbols p)
  -- and whatever comes of all others costs more
  pub spanned : (head p symbol : ℕ) (bx : Bx) (target : ℤ) (slack : ℕ) (q : Piece) → IsMove r head p symbol → IsTrue (r.is_box p bx) → IsSample target
      → (symbol < r.first_symbol p target slack) ⊎ (r.last_symbol p target slack < symbol)
      → Contains (r.image head p symbol bx target) q → slack < q.cost
  -- boxes lie in the box of all states, whose numbers have 16 bits
  pub boxes_inside : (p : ℕ) (bx : Bx) → p < r.decoder.samples → IsTrue (r.is_box p bx)
      → InBox (low_corner bx) r.whole × InBox (high_corner bx) r.whole
  pub whole_small : IsSample r.whole.a.lo × IsSample r.whole.a.hi × IsSample r.whole.b.lo × IsSample r.whole.b.hi
  -- the box of a cell may stand at every place
  pub cells_fit : (level p : ℕ) (cell : Cell) → IsTrue (is_level level) → p < r.decoder.samples → IsTrue (is_cell (grid r) level cell)
      → IsTrue (r.is_box p (cell_box (grid r) level cell))
  -- a box's floor is that of the box of each cell that it meets
  pub floors_met : (head p level : ℕ) (bx : Bx) (cell : Cell) (targets : List ℤ) → IsTrue (is_level level) → head < r.decoder.heads → p < r.decoder.samples → IsTrue (r.is_box p bx)
      → IsBetween (cell_of (grid r) level (low_corner bx)) (cell_of (grid r) level (high_corner bx)) cell
      → r.floor head p bx targets ≡ r.floor head p (cell_box (grid r) level cell) targets
