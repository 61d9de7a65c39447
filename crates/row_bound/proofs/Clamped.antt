-- What a row keeps of the errors before an output that clamping left.
use Rattle.std.proofs.Common.{◌≡◌, arith, refl}
use Rattle.std.specs.Prelude.{ℤ, pos, ◌-ℤ◌, ◌*ℤ◌, ◌≤ℤ◌}
use Rattle.std.proofs.Math.IntN.{zero-*ℤ}
use Rattle.std.proofs.lemmas.Int.{ints}
use Rattle.row_bound.specs.declared.row.Row.{Row}
use Rattle.row_bound.specs.Rows.{Fits}
use Rattle.adpcm_nums.proofs.ProductLaws.{in-order}

none : (w : Row) (z : ℤ) → w.d ≡ pos 0 → w.d *ℤ z ≡ pos 0
none w z e = rw e (zero-*ℤ z)

pub high-fits : (w : Row) (d x y z most least : ℤ) → w.d ≡ pos 0 → pos 0 ≤ℤ d → (d *ℤ z -ℤ w.a *ℤ x -ℤ w.b *ℤ y) ≤ℤ most → least ≤ℤ z
    → (most -ℤ d *ℤ least) ≤ℤ w.high → w.low ≤ℤ (pos 0 -ℤ w.a *ℤ x -ℤ w.b *ℤ y) → Fits w x y w.out
high-fits w d x y z most least flat sign under past high low =
    let n = none w w.out flat in
    let up = in-order d least z sign past in
    record { low = omega (arith, ints, n, low); high = omega (arith, ints, n, up, under, high); at = λ _. refl }

pub low-fits : (w : Row) (d x y z most least : ℤ) → w.d ≡ pos 0 → pos 0 ≤ℤ d → least ≤ℤ (d *ℤ z -ℤ w.a *ℤ x -ℤ w.b *ℤ y) → z ≤ℤ most
    → w.low ≤ℤ (least -ℤ d *ℤ most) → (pos 0 -ℤ w.a *ℤ x -ℤ w.b *ℤ y) ≤ℤ w.high → Fits w x y w.out
low-fits w d x y z most least flat sign over past low high =
    let n = none w w.out flat in
    let up = in-order d z most sign past in
    record { low = omega (arith, ints, n, up, over, low); high = omega (arith, ints, n, high); at = λ _. refl }
