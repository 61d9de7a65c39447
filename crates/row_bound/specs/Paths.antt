-- Errors one after another that keep rows, and what they cost.
use Rattle.std.specs.Prelude.{◌≡◌, ℕ, ◌+◌, ◌*◌, ◌<◌, ◌≤◌, ℤ, pos, List, [], ◌∷◌, length, get_or}
use Rattle.adpcm_nums.specs.Nums.{square_of}
use Rattle.row_bound.specs.declared.row.Row.{Row}
use Rattle.row_bound.specs.declared.layer.Layer.{Layer}
use Rattle.row_bound.specs.Rows.{Fits, IsMoved}

-- a layer allows a row: its base moved by one of the steps, or one of its two other rows
pub data IsChoice (steps : List ℤ) (layer : Layer) (w : Row) : Type 0 where
  moved : (i : ℕ) → i < length steps → IsMoved layer.base (get_or steps i (pos 0)) w → IsChoice steps layer w
  first : w ≡ layer.first → IsChoice steps layer w
  second : w ≡ layer.second → IsChoice steps layer w

-- errors that keep the rows ws and then one row of each layer, after x (the last) and y, cost c
pub data Path (steps : List ℤ) : List Row → List Layer → ℤ → ℤ → ℕ → Type 0 where
  done : (x y : ℤ) → Path steps [] [] x y 0
  by_row : (w : Row) (ws : List Row) (layers : List Layer) (x y z : ℤ) (c : ℕ) → Fits w x y z → Path steps ws layers z x c
      → Path steps (w ∷ ws) layers x y (w.weight * square_of z + c)
  by_layer : (layer : Layer) (layers : List Layer) (x y z : ℤ) (c : ℕ) (w : Row) → IsChoice steps layer w → Fits w x y z
      → Path steps [] layers z x c → Path steps [] (layer ∷ layers) x y (w.weight * square_of z + c)

-- every path of the layers costs at least n, whatever errors it starts from
abbrev pub Owes : List ℤ → List Layer → ℕ → Type 0
Owes steps layers n = (x y : ℤ) (c : ℕ) → Path steps [] layers x y c → n ≤ c

-- every path of the rows and layers costs at least n with the two errors that it starts from, weighed as v and u say
abbrev pub OwesFrom : List ℤ → Row → Row → List Row → List Layer → ℕ → Type 0
OwesFrom steps v u ws layers n = (y x : ℤ) (c : ℕ) → Path steps ws layers x y c → n ≤ v.weight * square_of y + u.weight * square_of x + c
