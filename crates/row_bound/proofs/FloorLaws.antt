-- What the bound of rows says of their paths.
use Rattle.std.proofs.Common.{◌≡◌, ℕ, ◌+◌, ◌*◌, ◌≤◌, arith, ◌∙◌, sym, false, true≢false}
use Rattle.std.specs.Prelude.{ℤ, pos, ◌*ℤ◌, ◌+ℤ◌, ◌≤ℤ◌, List}
use Rattle.std.proofs.Math.IntN.{zero-*ℤ}
use Rattle.std.proofs.lemmas.Int.{ints}
use Rattle.adpcm_nums.specs.Nums.{square_of}
use Rattle.row_bound.specs.declared.row.Row.{Row}
use Rattle.row_bound.specs.declared.layer.Layer.{Layer}
use Rattle.row_bound.specs.Rows.{At}
use Rattle.row_bound.specs.Paths.{Owes, OwesFrom}
use Rattle.row_bound.specs.Bound.{bound}
use Rattle.row_bound.proofs.DualLemma.{dual-below}

-- any error may stand at a free place
free : (w : Row) (z : ℤ) → w.known ≡ false → At w z
free w z h k = absurd (true≢false (sym k ∙ h))

-- nothing stands with the two errors before
without : (b y x : ℤ) (n m : ℕ) → (b +ℤ pos 128 *ℤ (pos 0 *ℤ y) +ℤ pos 128 *ℤ (pos 0 *ℤ x) +ℤ pos (4096 * n)) ≤ℤ pos (4096 * m) → (b +ℤ pos (4096 * n)) ≤ℤ pos (4096 * m)
without b y x n m h = let p = zero-*ℤ y in let q = zero-*ℤ x in omega (arith, ints, h, p, q)

-- what is below every number that the bound b and the rest are below, is below the cost of paths whose bound is not less
pub floor-below : (rows ws : List Row) (mus : List ℤ) (v u : Row) (n r : ℕ) (b : ℤ) → v.known ≡ false → u.known ≡ false → b ≡ bound rows mus 0 v u (pos 0) (pos 0)
    → ((m : ℕ) → (b +ℤ pos (4096 * n)) ≤ℤ pos (4096 * m) → r ≤ m)
    → (steps : List ℤ) (layers : List Layer) → bound rows mus 0 v u (pos 0) (pos 0) ≤ℤ bound ws mus 0 v u (pos 0) (pos 0) → Owes steps layers n → OwesFrom steps v u ws layers r
floor-below rows ws mus v u n r b kv ku eb least steps layers more owes y x c path =
    let t = dual-below steps ws mus 0 n layers v u (pos 0) (pos 0) y x c owes (free v y kv) (free u x ku) path in
    let s = without (bound ws mus 0 v u (pos 0) (pos 0)) y x n (v.weight * square_of y + u.weight * square_of x + c) t in
    least (v.weight * square_of y + u.weight * square_of x + c) (omega (arith, ints, s, more, eb))
