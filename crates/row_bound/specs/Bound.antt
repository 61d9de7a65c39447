-- The dual bound under the cost of rows, 4096-fold: it holds for any factors, one a row, in 64ths.
use Rattle.std.specs.Prelude.{◌≡◌, ◌⊎◌, ◌≤ℤ◌, ℕ, suc, ◌*◌, ℤ, pos, negsuc, ◌+ℤ◌, ◌-ℤ◌, ◌*ℤ◌, if◌then◌else◌, List, [], ◌∷◌, get_or}
use Rattle.std.specs.Int.{div_ceil, int_min, int_max}
use Rattle.adpcm_nums.specs.Nums.{square_of}
use Rattle.row_bound.specs.declared.row.Row.{Row}

-- what a place takes of the bound, where its error stands with the factor l
unfoldable pub loss : Row → ℤ → ℤ
loss w l = if w.known then pos 128 *ℤ (l *ℤ w.out) -ℤ pos (4096 * (w.weight * square_of w.out)) else pos (div_ceil (square_of l) w.weight)

-- what the interval of a row gives
unfoldable pub gain : Row → ℤ → ℤ
gain w mu = pos 128 *ℤ int_min (mu *ℤ w.low) (mu *ℤ w.high)

-- the factor of the row i: what is proposed, brought into ±2^28, and 0 past the end
unfoldable pub factor : List ℤ → ℕ → ℤ
factor mus i = int_max (negsuc 268435455) (int_min (get_or mus i (pos 0)) (pos 268435456))

-- the bound of rows whose factors begin at i; v and u are the two places before them, whose errors stand with the factors
-- q and p so far
unfoldable pub bound : List Row → List ℤ → ℕ → Row → Row → ℤ → ℤ → ℤ
bound [] mus i v u q p = pos 0 -ℤ loss v q -ℤ loss u p
bound (w ∷ ws) mus i v u q p =
    gain w (factor mus i) -ℤ loss v (q -ℤ w.b *ℤ factor mus i)
    +ℤ bound ws mus (suc i) u w (p -ℤ w.a *ℤ factor mus i) (w.d *ℤ factor mus i)

-- z is w with its interval further out on the side of the sign of the factor m
pub record Outward (m : ℤ) (w z : Row) : Type 0 where
  pub d : w.d ≡ z.d
  pub a : w.a ≡ z.a
  pub b : w.b ≡ z.b
  pub weight : w.weight ≡ z.weight
  pub known : w.known ≡ z.known
  pub out : w.out ≡ z.out
  pub side : ((pos 0 ≤ℤ m) × (w.low ≤ℤ z.low) × (w.high ≤ℤ z.high)) ⊎ ((m ≤ℤ pos 0) × (z.low ≤ℤ w.low) × (z.high ≤ℤ w.high))
