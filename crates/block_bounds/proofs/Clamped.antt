-- An output of clamping fits the row that stands for it.
use Rattle.std.proofs.Common.{◌≡◌, ◌⊎◌, ℕ, ◌<◌, ◌^◌, arith, ap, ◌∙◌, sym, inl, inr}
use Rattle.std.specs.Prelude.{ℤ, pos, negsuc, ◌+ℤ◌, ◌-ℤ◌, ◌*ℤ◌, ◌≤ℤ◌, get_or}
use Rattle.std.proofs.lemmas.Int.{ints}
use Rattle.adpcm_nums.specs.Sample.{IsSample}
use Rattle.adpcm_nums.specs.Ranges.{IsWithin}
use Rattle.row_bound.specs.declared.row.Row.{Row as ErrorRow}
use Rattle.row_bound.specs.Rows.{Fits, IsMoved}
use Rattle.row_bound.proofs.Clamped.{high-fits, low-fits}
use Rattle.adpcm_nums.proofs.ProductLaws.{mul-add, mul-sub, mul-swap, in-order}
use Rattle.window_floor.specs.Windows.{Windows}
use Rattle.block_bounds.specs.Covers.{IsOverRow, IsUnderRow}
use Rattle.block_bounds.proofs.RowSums.{sum-as}
use Rattle.block_bounds.proofs.Sizes.{scaled-size}

pub natural-scale : (s : ℤ) → (s ≡ pos 1) ⊎ (s ≡ pos 2) → pos 0 ≤ℤ s
natural-scale s (inl e) = omega (arith, ints, e)
natural-scale s (inr e) = omega (arith, ints, e)

-- how large an error of an output of 16 bits is
pub error-size : (s y t : ℤ) → (s ≡ pos 1) ⊎ (s ≡ pos 2) → IsSample y → IsSample t → IsWithin (s *ℤ y -ℤ t) (negsuc (2 ^ 17)) (pos (2 ^ 17))
error-size s y t (inl e) u v = let a = u.low in let b = u.high in let c = v.low in let d = v.high in record { low = rw e (omega (arith, ints, a, b, c, d)); high = rw e (omega (arith, ints, a, b, c, d)) }
error-size s y t (inr e) u v = let a = u.low in let b = u.high in let c = v.low in let d = v.high in record { low = rw e (omega (arith, ints, a, b, c, d)); high = rw e (omega (arith, ints, a, b, c, d)) }

-- and what a row makes of two of them
pub sum-size : (row : ErrorRow) (x y : ℤ) → IsWithin x (negsuc (2 ^ 17)) (pos (2 ^ 17)) → IsWithin y (negsuc (2 ^ 17)) (pos (2 ^ 17))
    → ((pos 0 -ℤ pos (2 ^ 26)) ≤ℤ (pos 0 -ℤ row.a *ℤ x -ℤ row.b *ℤ y)) × ((pos 0 -ℤ row.a *ℤ x -ℤ row.b *ℤ y) ≤ℤ pos (2 ^ 26))
sum-size row x y u v =
    let al = row.a_is.low in let ah = row.a_is.high in let bl = row.b_is.low in let bh = row.b_is.high in
    let p = scaled-size row.a x (omega (arith, ints, al)) (omega (arith, ints, ah)) u.low u.high in
    let q = scaled-size row.b y (omega (arith, ints, bl)) (omega (arith, ints, bh)) v.low v.high in
    (omega (arith, ints, p, q), omega (arith, ints, p, q))

-- a step and the error of an end are together the error of the end less the sample
past-is : (d s a end x : ℤ) → s *ℤ (d *ℤ (a -ℤ pos 32768 *ℤ pos 0)) -ℤ d *ℤ (s *ℤ end -ℤ x) ≡ pos 0 -ℤ d *ℤ (s *ℤ (end -ℤ a) -ℤ x)
past-is d s a end x =
    let spread = mul-sub s end a in
    let parts : s *ℤ end -ℤ x ≡ (s *ℤ (end -ℤ a) -ℤ x) +ℤ s *ℤ a = omega (arith, ints, spread) in
    let whole : d *ℤ (s *ℤ end -ℤ x) ≡ d *ℤ (s *ℤ (end -ℤ a) -ℤ x) +ℤ d *ℤ (s *ℤ a) = ap (λ t. d *ℤ t) parts ∙ mul-add d (s *ℤ (end -ℤ a) -ℤ x) (s *ℤ a) in
    let plain : a -ℤ pos 32768 *ℤ pos 0 ≡ a = omega (arith, ints) in
    let step : s *ℤ (d *ℤ (a -ℤ pos 32768 *ℤ pos 0)) ≡ d *ℤ (s *ℤ a) = ap (λ t. s *ℤ (d *ℤ t)) plain ∙ mul-swap s d a in
    omega (arith, ints, whole, step)

-- the filter's own error fits the base row moved by a sample; where the result is past the upper end, the errors before fit the row of the output that is left
pub over-fits : (w : Windows) (base row moved : ErrorRow) (i : ℕ) (s x p q raw : ℤ) → pos 0 ≤ℤ w.row.scale → base.d ≡ w.row.d → IsOverRow w x base row → IsMoved base s moved
    → s ≡ w.row.scale *ℤ (w.row.d *ℤ (get_or w.samples i (pos 0) -ℤ pos 32768 *ℤ pos 0)) → i < 16 → Fits moved p q (w.row.scale *ℤ raw -ℤ x) → pos 32768 ≤ℤ raw
    → (pos 0 -ℤ pos (2 ^ 26)) ≤ℤ (pos 0 -ℤ row.a *ℤ p -ℤ row.b *ℤ q) → Fits row p q row.out
over-fits w base row moved i s x p q raw sign factor stands moves step within fits past room =
    let known = stands.known in
    let a = get_or w.samples i (pos 0) in
    let sum = sum-as moved base.d row.a row.b p q (w.row.scale *ℤ raw -ℤ x) moves.d (moves.a ∙ sym known.a) (moves.b ∙ sym known.b) in
    let least = in-order w.row.scale (pos 32767) raw sign (omega (arith, ints, past)) in
    let moved-by : s ≡ w.row.scale *ℤ (base.d *ℤ (a -ℤ pos 32768 *ℤ pos 0)) = step ∙ ap (λ t. w.row.scale *ℤ (t *ℤ (a -ℤ pos 32768 *ℤ pos 0))) (sym factor) in
    let together = past-is base.d w.row.scale a (pos 32767) x in
    let top = fits.high in let high = moves.high in let end = stands.past i within in let far = stands.far in
    high-fits row base.d p q (w.row.scale *ℤ raw -ℤ x) (base.high +ℤ s) (w.row.scale *ℤ pos 32767 -ℤ x) known.d base.d_is.low
    (omega (arith, ints, sum, top, high)) (omega (arith, ints, least)) (omega (arith, ints, end, moved-by, together)) (omega (arith, ints, far, room))

-- and past the lower end
pub under-fits : (w : Windows) (base row moved : ErrorRow) (i : ℕ) (s x p q raw : ℤ) → pos 0 ≤ℤ w.row.scale → base.d ≡ w.row.d → IsUnderRow w x base row → IsMoved base s moved
    → s ≡ w.row.scale *ℤ (w.row.d *ℤ (get_or w.samples i (pos 0) -ℤ pos 32768 *ℤ pos 0)) → i < 16 → Fits moved p q (w.row.scale *ℤ raw -ℤ x) → raw ≤ℤ negsuc 32768
    → (pos 0 -ℤ row.a *ℤ p -ℤ row.b *ℤ q) ≤ℤ pos (2 ^ 26) → Fits row p q row.out
under-fits w base row moved i s x p q raw sign factor stands moves step within fits past room =
    let known = stands.known in
    let a = get_or w.samples i (pos 0) in
    let sum = sum-as moved base.d row.a row.b p q (w.row.scale *ℤ raw -ℤ x) moves.d (moves.a ∙ sym known.a) (moves.b ∙ sym known.b) in
    let most = in-order w.row.scale raw (negsuc 32767) sign (omega (arith, ints, past)) in
    let moved-by : s ≡ w.row.scale *ℤ (base.d *ℤ (a -ℤ pos 32768 *ℤ pos 0)) = step ∙ ap (λ t. w.row.scale *ℤ (t *ℤ (a -ℤ pos 32768 *ℤ pos 0))) (sym factor) in
    let together = past-is base.d w.row.scale a (negsuc 32767) x in
    let bottom = fits.low in let low = moves.low in let end = stands.past i within in let far = stands.far in
    low-fits row base.d p q (w.row.scale *ℤ raw -ℤ x) (w.row.scale *ℤ negsuc 32767 -ℤ x) (base.low +ℤ s) known.d base.d_is.low
    (omega (arith, ints, sum, bottom, low)) (omega (arith, ints, most)) (omega (arith, ints, end, moved-by, together)) (omega (arith, ints, far, room))
