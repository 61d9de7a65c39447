-- What a search over the layers of a block stands on.
use Rattle.std.specs.Prelude.{◌≡◌, ℕ, ◌<◌, ◌≤◌, ◌^◌, ℤ, List, length, drop, get_or}
use Rattle.row_bound.specs.declared.row.Row.{Row}
use Rattle.row_bound.specs.declared.layer.Layer.{Layer}
use Rattle.row_bound.specs.declared.advice.Advice.{Advice}
use Rattle.row_bound.specs.Paths.{Owes}
use Rattle.row_bound.specs.Ladder.{IsLadder}

-- few layers, steps that rise, and room for a row and its advice at each place of a block
pub record HasRoom (block : List Layer) (steps : List ℤ) (rows : List Row) (advice : List Advice) : Type 0 where
  pub prefix : length rows ≡ 28
  pub trail : length advice ≡ 28
  pub layers : length block ≤ 28
  pub ladder : IsLadder steps

-- a small floor for each place and one for the end: no path from there on costs less
pub record AreFloors (layers : List Layer) (steps : List ℤ) (floors : List ℕ) : Type 0 where
  pub enough : length layers < length floors
  pub small : (i : ℕ) → i ≤ length layers → get_or floors i 0 ≤ 2 ^ 48
  pub owed : (i : ℕ) → i ≤ length layers → Owes steps (drop i layers) (get_or floors i 0)
