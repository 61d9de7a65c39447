-- Which rows of a layer a search is done with, and what the bound of one row says of those further out.
use Rattle.std.specs.Prelude.{◌≡◌, ◌⊎◌, Bool, true, false, ℕ, ◌+◌, ◌-◌, ◌<◌, ◌≤◌, ℤ, pos, ◌≤ℤ◌, List, [], ◌∷◌, ◌++◌, length, get_or}
use Rattle.row_bound.specs.declared.row.Row.{Row}
use Rattle.row_bound.specs.declared.layer.Layer.{Layer}
use Rattle.row_bound.specs.declared.done.Done.{Done}
use Rattle.row_bound.specs.declared.done.Side.{Side}
use Rattle.row_bound.specs.declared.done.Side.TheVariants.{Up, Down, Apart}
use Rattle.row_bound.specs.Rows.{IsMoved}
use Rattle.row_bound.specs.Paths.{OwesFrom}

-- z is w with its interval further up
pub record Above (w z : Row) : Type 0 where
  pub d : w.d ≡ z.d
  pub a : w.a ≡ z.a
  pub b : w.b ≡ z.b
  pub weight : w.weight ≡ z.weight
  pub known : w.known ≡ z.known
  pub out : w.out ≡ z.out
  pub low : w.low ≤ℤ z.low
  pub high : w.high ≤ℤ z.high

-- with w, or any row further up, after ws every path costs t
pub record OwesAbove (steps : List ℤ) (v u : Row) (ws : List Row) (layers : List Layer) (w : Row) (t : ℕ) : Type 0 where
  pub all : (z : Row) → Above w z → OwesFrom steps v u (ws ++ (z ∷ [])) layers t

-- with w, or any row further down, after ws every path costs t
pub record OwesBelow (steps : List ℤ) (v u : Row) (ws : List Row) (layers : List Layer) (w : Row) (t : ℕ) : Type 0 where
  pub all : (z : Row) → Above z w → OwesFrom steps v u (ws ++ (z ∷ [])) layers t

-- w is the next row on a side of those that are done
abbrev pub Stands : List ℤ → Layer → Done → Side → Row → Type 0
Stands steps layer done Up w = (done.high < length steps) × IsMoved layer.base (get_or steps done.high (pos 0)) w
Stands steps layer done Down w = (0 < done.low) × IsMoved layer.base (get_or steps (done.low - 1) (pos 0)) w
Stands steps layer done Apart w = ((done.apart ≡ 0) × (w ≡ layer.first)) ⊎ ((done.apart ≡ 1) × (w ≡ layer.second))

-- with the rows that are done, after ws every path costs t
pub record Searched (steps : List ℤ) (v u : Row) (ws : List Row) (layers : List Layer) (layer : Layer) (done : Done) (t : ℕ) : Type 0 where
  pub free : (i : ℕ) (w : Row) → done.low ≤ i → i < done.high → IsMoved layer.base (get_or steps i (pos 0)) w → OwesFrom steps v u (ws ++ (w ∷ [])) layers t
  pub first : 0 < done.apart → OwesFrom steps v u (ws ++ (layer.first ∷ [])) layers t
  pub second : 1 < done.apart → OwesFrom steps v u (ws ++ (layer.second ∷ [])) layers t

-- how many rows are left
abbrev pub left_of : ℕ → Done → ℕ
left_of n done = done.low + (n - done.high) + (2 - done.apart)

-- what the bound of a row tells, by the sign of its factor: of the row itself, and of those further up or further down
pub record Tells (steps : List ℤ) (v u : Row) (ws : List Row) (layers : List Layer) (w : Row) (floor : ℕ) (rises : Bool) : Type 0 where
  pub up : rises ≡ true → OwesAbove steps v u ws layers w floor
  pub down : rises ≡ false → OwesBelow steps v u ws layers w floor
