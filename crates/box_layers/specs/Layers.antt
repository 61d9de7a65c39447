-- Layers in the order of their keys.
use Rattle.std.specs.Prelude.{◌≡◌, ℕ, IsTrue, if◌then◌else◌, List, [], ◌∷◌, length, Option, Some, None}
use Rattle.std.specs.Bool.{⊤}
use Rattle.machine_core.specs.declared.boxes.Cell.{Cell}
use Rattle.box_layers.specs.declared.key.Key.{Key}
use Rattle.box_layers.specs.declared.layer.Layer.{Layer}
use Rattle.box_layers.specs.Cells.{IsAscending}
use Rattle.box_layers.specs.Keys.{key_before, key_same}
use Rattle.box_layers.specs.Pairs.{paired}

-- a layer as its key and two lists
pub record LayerLists : Type 0 where
  pub key : Key
  pub cells : List Cell
  pub values : List ℕ

abbrev pub lists_of : Layer → LayerLists
lists_of l = record { key = l.key; cells = l.cells.now; values = l.values.now }

-- a key that all of these stand before
abbrev pub IsAbove : Key → List LayerLists → Type 0
IsAbove key [] = ⊤
IsAbove key (l ∷ ls) = IsTrue (key_before l.key key) × IsAbove key ls

-- a key that stands before all of these
abbrev pub IsBelow : Key → List LayerLists → Type 0
IsBelow key [] = ⊤
IsBelow key (l ∷ ls) = IsTrue (key_before key l.key) × IsBelow key ls

-- the cells of a layer ascend, and each has a value
pub record IsLayer (l : LayerLists) : Type 0 where
  pub same_length : length l.values ≡ length l.cells
  pub ascends : IsAscending (paired l.cells l.values)

-- each is a layer, and their keys rise
abbrev pub AreLayers : List LayerLists → Type 0
AreLayers [] = ⊤
AreLayers (l ∷ ls) = IsLayer l × IsBelow l.key ls × AreLayers ls

-- the first with this key
abbrev pub first_of : Key → List LayerLists → Option LayerLists
first_of key [] = None
first_of key (l ∷ ls) = if key_same l.key key then Some l else first_of key ls
