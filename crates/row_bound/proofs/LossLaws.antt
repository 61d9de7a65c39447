-- The loss of a place by its two cases, and that it has room.
use Rattle.std.proofs.Common.{◌≡◌, ℕ, zero, suc, ◌+◌, ◌-◌, ◌*◌, ◌^◌, ◌<◌, ◌≤◌, arith, ap, ◌∙◌, sym, true, false, ◌⊎◌, inl, inr, w64, to_z, of_z}
use Rattle.std.specs.Prelude.{ℤ, pos, ◌*ℤ◌, ◌-ℤ◌, ◌≤ℤ◌}
use Rattle.std.specs.Int.{div_ceil}
use Rattle.std.proofs.lemmas.Int.{ints}
use Rattle.std.proofs.lemmas.Grind.{div_ceil_times}
use Rattle.row_bound.specs.declared.row.Row.{Row}
use Rattle.adpcm_nums.specs.Nums.{square_of}
use Rattle.row_bound.specs.Bound.{loss}

pub loss-known : (w : Row) (l k f t : ℤ) → w.known ≡ true → k ≡ l *ℤ w.out → f ≡ pos (4096 * (w.weight * square_of w.out)) → t ≡ pos 128 *ℤ k -ℤ f → t ≡ loss w l
unfolding loss
loss-known w l k f t h a b e = rw h (e ∙ (ap (λ z. pos 128 *ℤ z -ℤ f) a ∙ ap (λ z. pos 128 *ℤ (l *ℤ w.out) -ℤ z) b))

pub loss-free : (w : Row) (l t : ℤ) (n : ℕ) → w.known ≡ false → n ≡ div_ceil (square_of l) w.weight → t ≡ pos n → t ≡ loss w l
unfolding loss
loss-free w l t n h a e = rw h (e ∙ ap pos a)

ceil-under : (n w : ℕ) → 0 < w → div_ceil n w * w < n + w
ceil-under n w h = grind (arith, div_ceil_times)

small-by : (d n w : ℕ) → d * suc w < n + suc w → d ≤ n
small-by d n w t =
    let c : (d ≤ n) ⊎ (n < d) = grind arith in
    elim c [
      | inl g ↦ g
      | inr g ↦ (let e : n + suc (d - (n + 1)) ≡ d = omega arith in let m = rw (sym e) at t in absurd (omega (arith, m)))
    ]

pub ceil-small : (n w : ℕ) → 0 < w → div_ceil n w ≤ n
ceil-small n zero h = elim h [ ]
ceil-small n (suc w) h = small-by (div_ceil n (suc w)) n w (ceil-under n (suc w) h)

pub cast-is : (z : ℤ) (n : ℕ) → z ≡ to_z w64 n → n ≤ 2 ^ 57 → to_z w64 (of_z w64 z) ≡ pos n
cast-is z n e h = omega (arith, ints, e, h)

pub at-most : (z : ℤ) (n : ℕ) → z ≡ pos n → n ≤ 2 ^ 57 → z ≤ℤ pos (2 ^ 57)
at-most z n e h = rw e (omega (arith, ints, h))
