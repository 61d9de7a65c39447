-- A row ties the error of a place to the errors of the two places before it.
use Rattle.std.specs.Prelude.{◌≡◌, ℤ, ◌-ℤ◌, ◌*ℤ◌, ◌+ℤ◌, ◌≤ℤ◌, true}
use Rattle.row_bound.specs.declared.row.Row.{Row}

-- z may stand at the place of a row: any error, or the one that is known
abbrev pub At : Row → ℤ → Type 0
At w z = w.known ≡ true → z ≡ w.out

-- z may follow the errors x (the last) and y (the one before it)
pub record Fits (w : Row) (x y z : ℤ) : Type 0 where
  pub low : w.low ≤ℤ (w.d *ℤ z -ℤ w.a *ℤ x -ℤ w.b *ℤ y)
  pub high : (w.d *ℤ z -ℤ w.a *ℤ x -ℤ w.b *ℤ y) ≤ℤ w.high
  pub at : At w z

-- w is a row whose interval is moved up by s
pub record IsMoved (base : Row) (s : ℤ) (w : Row) : Type 0 where
  pub d : w.d ≡ base.d
  pub a : w.a ≡ base.a
  pub b : w.b ≡ base.b
  pub low : w.low ≡ base.low +ℤ s
  pub high : w.high ≡ base.high +ℤ s
  pub weight : w.weight ≡ base.weight
  pub known : w.known ≡ base.known
  pub out : w.out ≡ base.out
