-- Which rows stand for what a decoder may give.
use Rattle.std.specs.Prelude.{◌≡◌, ℕ, ◌<◌, ◌^◌, ℤ, pos, negsuc, ◌-ℤ◌, ◌*ℤ◌, ◌≤ℤ◌, Bool, List, [], ◌∷◌, length, get_or}
use Rattle.adpcm_nums.specs.Sample.{IsSample}
use Rattle.row_bound.specs.declared.row.Row.{Row as ErrorRow}
use Rattle.row_bound.specs.declared.layer.Layer.{Layer}
use Rattle.window_floor.specs.Miss.{rho_of}
use Rattle.window_floor.specs.Outcome.{IsWrap}
use Rattle.window_floor.specs.Windows.{Windows}
use Rattle.block_bounds.specs.Outputs.{weight_of}

-- a row for the output y that clamping leaves, against the target x: its error is known, and it asks for the errors before as the base row does
pub record IsKnownRow (scale y x : ℤ) (base row : ErrorRow) : Type 0 where
  pub d : row.d ≡ pos 0
  pub a : row.a ≡ base.a
  pub b : row.b ≡ base.b
  pub out : row.out ≡ scale *ℤ y -ℤ x

-- clamping at the upper end: on top of a sample the filter came to 32767 or more, so what it predicted is from 32767 less the sample on.
-- The row's other end is below whatever errors may stand before
pub record IsOverRow (w : Windows) (x : ℤ) (base row : ErrorRow) : Type 0 where
  pub known : IsKnownRow w.row.scale w.first x base row
  pub past : (i : ℕ) → i < 16 → (base.high -ℤ base.d *ℤ (w.row.scale *ℤ (pos 32767 -ℤ get_or w.samples i (pos 0)) -ℤ x)) ≤ℤ row.high
  pub far : row.low ≤ℤ (pos 0 -ℤ pos (2 ^ 26))

-- clamping at the lower end: it came to -32768 or less
pub record IsUnderRow (w : Windows) (x : ℤ) (base row : ErrorRow) : Type 0 where
  pub known : IsKnownRow w.row.scale w.second x base row
  pub past : (i : ℕ) → i < 16 → row.low ≤ℤ (base.low -ℤ base.d *ℤ (w.row.scale *ℤ (negsuc 32767 -ℤ get_or w.samples i (pos 0)) -ℤ x))
  pub far : pos (2 ^ 26) ≤ℤ row.high

-- a layer stands for the outputs of a place, where r, o and x are the targets of the two places before and of its own
pub record Covers (w : Windows) (r o x : ℤ) (weight : ℕ) (layer : Layer) : Type 0 where
  pub older : IsSample r
  pub last : IsSample o
  pub d : layer.base.d ≡ w.row.d
  pub a : layer.base.a ≡ w.row.ca
  pub b : layer.base.b ≡ w.row.cb
  pub low : layer.base.low ≡ w.row.scale *ℤ (w.row.bias -ℤ pos w.row.errs) -ℤ rho_of w.row r o x
  pub high : layer.base.high ≡ w.row.scale *ℤ w.row.bias -ℤ rho_of w.row r o x
  pub weighs : layer.base.weight ≡ weight
  pub first : IsOverRow w x layer.base layer.first
  pub second : IsUnderRow w x layer.base layer.second

-- there is a step for each sample and each wrap
pub record AreSteps (b : Windows) (steps : List ℤ) : Type 0 where
  pub all : (i : ℕ) (k : ℤ) → i < 16 → IsWrap b.row.wraps k → (j : ℕ) × (j < length steps) × (get_or steps j (pos 0) ≡ b.row.scale *ℤ (b.row.d *ℤ (get_or b.samples i (pos 0) -ℤ pos 32768 *ℤ k)))

-- the layers of the places with these targets, after places with the targets r and o
pub data LayersFor (b : Windows) (leaving : Bool) : List ℤ → (r o : ℤ) → List Layer → Type 0 where
  none : (r o : ℤ) → LayersFor b leaving [] r o []
  more : (x : ℤ) (ts : List ℤ) (r o : ℤ) (layer : Layer) (layers : List Layer) → Covers b r o x (weight_of leaving (length ts)) layer → LayersFor b leaving ts o x layers
      → LayersFor b leaving (x ∷ ts) r o (layer ∷ layers)
