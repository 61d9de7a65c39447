-- What a certificate says.
use Rattle.std.specs.Prelude.{ℕ, ◌+◌, ◌*◌, ◌<◌, IsTrue, List, [], ◌∷◌, length, Option, Some, None, cond, nat_eq}
use Rattle.std.specs.Bool.{⊤}
use Rattle.box_layers.specs.declared.cell_value.CellValue.{CellValue}
use Rattle.box_layers.specs.declared.key.Key.{Key}
use Rattle.box_layers.specs.Cells.{IsAscending}
use Rattle.box_layers.specs.Keys.{key_before, key_same}

pub record Layer : Type 0 where
  pub key : Key
  pub cells : List CellValue

-- a layer, with the place where it begins and the layers after it
pub record Here : Type 0 where
  pub at : ℕ
  pub layer : Layer
  pub later : List Layer

-- a segment, with the place where its first layer begins
pub record Segment : Type 0 where
  pub at : ℕ
  pub blocks : ℕ
  pub level : ℕ
  pub bound : ℕ
  pub layers : List Layer

abbrev pub IsBelowAll : Key → List Layer → Type 0
IsBelowAll k [] = ⊤
IsBelowAll k (x ∷ xs) = IsTrue (key_before k x.key) × IsBelowAll k xs

-- cells ascend in each layer, and layers ascend
abbrev pub AreSorted : List Layer → Type 0
AreSorted [] = ⊤
AreSorted (x ∷ xs) = (0 < length x.cells) × IsAscending x.cells × IsBelowAll x.key xs × AreSorted xs

-- where the layer after a layer of n cells begins
abbrev pub end_of : ℕ → ℕ → ℕ
end_of at n = at + 10 + 12 * n

abbrev pub first_at : ℕ → List Layer → Option Here
first_at at [] = None
first_at at (x ∷ xs) = Some (record { at = at; layer = x; later = xs })

abbrev pub next_of : Here → Option Here
next_of h = first_at (end_of h.at (length h.layer.cells)) h.later

-- a segment as it is written, without a place
pub record Plain : Type 0 where
  pub blocks : ℕ
  pub level : ℕ
  pub bound : ℕ
  pub layers : List Layer

-- the first of the layers with this key, where the first of them begins at a place
abbrev pub found_at : ℕ → List Layer → Key → Option Here
found_at at [] key = None
found_at at (x ∷ xs) key = cond (key_same x.key key) (Some (record { at = at; layer = x; later = xs })) (found_at (end_of at (length x.cells)) xs key)

-- the layer that begins at place p, of layers of which the first begins at a place
abbrev pub begins_at : ℕ → List Layer → ℕ → Option Here
begins_at at [] p = None
begins_at at (x ∷ xs) p = cond (nat_eq at p) (Some (record { at = at; layer = x; later = xs })) (begins_at (end_of at (length x.cells)) xs p)
