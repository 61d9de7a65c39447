-- What stands in the bytes at a place.
use Rattle.std.specs.Prelude.{ℕ, zero, suc, ◌+◌, ◌*◌, ◌≤◌, ℤ, List, [], ◌∷◌, length, drop, slice_index}
use Rattle.byteorder.specs.Endian.{little_number, twos_complement}
use Rattle.machine_core.specs.declared.boxes.Cell.{Cell}
use Rattle.box_layers.specs.declared.cell_value.CellValue.{CellValue}
use Rattle.box_layers.specs.declared.key.Key.{Key}
use Rattle.bound_cert.specs.Content.{Layer, Here, Segment, AreSorted}

unfoldable pub u16_at : List ℕ → ℕ → ℕ
u16_at bytes at = little_number 2 (drop at bytes)

unfoldable pub i16_at : List ℕ → ℕ → ℤ
i16_at bytes at = twos_complement 2 (little_number 2 (drop at bytes))

unfoldable pub u32_at : List ℕ → ℕ → ℕ
u32_at bytes at = little_number 4 (drop at bytes)

unfoldable pub u64_at : List ℕ → ℕ → ℕ
u64_at bytes at = little_number 8 (drop at bytes)

abbrev pub cell_at : List ℕ → ℕ → Cell
cell_at bytes at = record { a = i16_at bytes at; b = i16_at bytes (at + 2) }

abbrev pub value_at : List ℕ → ℕ → CellValue
value_at bytes at = record { cell = cell_at bytes at; value = u64_at bytes (at + 4) }

abbrev pub cells_at : List ℕ → ℕ → ℕ → List CellValue
cells_at bytes at zero = []
cells_at bytes at (suc n) = value_at bytes at ∷ cells_at bytes (at + 12) n

abbrev pub key_at : List ℕ → ℕ → Key
key_at bytes at = record { block = u16_at bytes at; place = u16_at bytes (at + 2); lane = u16_at bytes (at + 4) }

abbrev pub count_at : List ℕ → ℕ → ℕ
count_at bytes at = u32_at bytes (at + 6)

abbrev pub layer_at : List ℕ → ℕ → Layer
layer_at bytes at = record { key = key_at bytes at; cells = cells_at bytes (at + 10) (count_at bytes at) }

abbrev pub layer_end : List ℕ → ℕ → ℕ
layer_end bytes at = at + 10 + 12 * count_at bytes at

abbrev pub layers_at : List ℕ → ℕ → ℕ → List Layer
layers_at bytes at zero = []
layers_at bytes at (suc n) = layer_at bytes at ∷ layers_at bytes (layer_end bytes at) n

abbrev pub layers_end : List ℕ → ℕ → ℕ → ℕ
layers_end bytes at zero = at
layers_end bytes at (suc n) = layers_end bytes (layer_end bytes at) n

abbrev pub here_at : List ℕ → ℕ → ℕ → Here
here_at bytes at left = record { at = at; layer = layer_at bytes at; later = layers_at bytes (layer_end bytes at) left }

-- the layers lie in the bytes
abbrev pub Fit : List ℕ → ℕ → ℕ → Type 0
Fit bytes at zero = at ≤ length bytes
Fit bytes at (suc n) = (layer_end bytes at ≤ length bytes) × Fit bytes (layer_end bytes at) n

-- layers that ascend lie there, so many
pub record Stand (bytes : List ℕ) (at n : ℕ) : Type 0 where
  pub fit : Fit bytes at n
  pub sorted : AreSorted (layers_at bytes at n)

-- a layer lies there, and so many after it
pub record StandHere (bytes : List ℕ) (at left : ℕ) : Type 0 where
  pub within : layer_end bytes at ≤ length bytes
  pub later : Fit bytes (layer_end bytes at) left
  pub sorted : AreSorted (layer_at bytes at ∷ layers_at bytes (layer_end bytes at) left)

abbrev pub segment_at : List ℕ → ℕ → Segment
segment_at bytes at = record { at = at + 16; blocks = u16_at bytes at; level = slice_index bytes (at + 2); bound = u64_at bytes (at + 4); layers = layers_at bytes (at + 16) (u32_at bytes (at + 12)) }

abbrev pub segment_end : List ℕ → ℕ → ℕ
segment_end bytes at = layers_end bytes (at + 16) (u32_at bytes (at + 12))

abbrev pub segments_at : List ℕ → ℕ → ℕ → List Segment
segments_at bytes at zero = []
segments_at bytes at (suc n) = segment_at bytes at ∷ segments_at bytes (segment_end bytes at) n

-- so many segments lie there
abbrev pub AllStand : List ℕ → ℕ → ℕ → Type 0
AllStand bytes at zero = at ≤ length bytes
AllStand bytes at (suc n) = (at + 16 ≤ length bytes) × Stand bytes (at + 16) (u32_at bytes (at + 12)) × AllStand bytes (segment_end bytes at) n
