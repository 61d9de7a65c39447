-- The dual lemma: one square is completed at each place, and the two sums are exchanged row by row.
use Rattle.std.proofs.Common.{◌≡◌, ℕ, suc, ◌+◌, ◌*◌, ◌≤◌, arith, ap, ◌∙◌, refl, ◌⊎◌, inl, inr, true, false, Bool}
use Rattle.std.specs.Prelude.{ℤ, pos, ◌+ℤ◌, ◌-ℤ◌, ◌*ℤ◌, ◌≤ℤ◌, List, [], ◌∷◌}
use Rattle.std.specs.Int.{int_min}
use Rattle.std.proofs.lemmas.Int.{ints}
use Rattle.std.proofs.Math.IntN.{*ℤ_comm}
use Rattle.adpcm_nums.specs.Nums.{square_of}
use Rattle.row_bound.specs.declared.row.Row.{Row}
use Rattle.row_bound.specs.declared.layer.Layer.{Layer}
use Rattle.row_bound.specs.Rows.{At, Fits}
use Rattle.row_bound.specs.Paths.{Path, by_row, Owes}
use Rattle.row_bound.specs.Bound.{loss, gain, factor, bound}
use Rattle.adpcm_nums.proofs.ProductLaws.{mul-sub, mul-swap, in-order}
use Rattle.row_bound.proofs.Orders.{against, sub-mul}
use Rattle.row_bound.proofs.Squares.{free-share}

both : (b : Bool) → (b ≡ true) ⊎ (b ≡ false)
both true = inl refl
both false = inr refl

sign : (m : ℤ) → (pos 0 ≤ℤ m) ⊎ (m ≤ℤ pos 0)
sign m = grind (arith, ints)

swap-in : (m d z : ℤ) → m *ℤ (d *ℤ z) ≡ (d *ℤ m) *ℤ z
swap-in m d z = ap (λ t. m *ℤ t) (*ℤ_comm d z) ∙ (mul-swap m z d ∙ (*ℤ_comm z (m *ℤ d) ∙ ap (λ t. t *ℤ z) (*ℤ_comm m d)))

-- an error that is known takes exactly this
known-share : (u : ℕ) (l z out : ℤ) → z ≡ out → (pos 128 *ℤ (l *ℤ z)) ≤ℤ (pos (4096 * (u * square_of z)) +ℤ (pos 128 *ℤ (l *ℤ out) -ℤ pos (4096 * (u * square_of out))))
known-share u l z out e = rw e (omega (arith, ints))

-- what a place takes at most of its error's product with l
share : (w : Row) (l z : ℤ) → At w z → (pos 128 *ℤ (l *ℤ z)) ≤ℤ (pos (4096 * (w.weight * square_of z)) +ℤ loss w l)
unfolding loss
share w l z at =
    elim (both w.known) [
      | inl k ↦ (let e = at k in rw k (known-share w.weight l z w.out e))
      | inr k ↦ (rw k (free-share l z w.weight w.weight_is))
    ]

-- the two sums are exchanged at one row
exchange : (d a b m q p x y z : ℤ) → m *ℤ (d *ℤ z -ℤ a *ℤ x -ℤ b *ℤ y) +ℤ q *ℤ y +ℤ p *ℤ x ≡ (q -ℤ b *ℤ m) *ℤ y +ℤ ((p -ℤ a *ℤ m) *ℤ x +ℤ (d *ℤ m) *ℤ z)
exchange d a b m q p x y z =
    let one = mul-sub m (d *ℤ z -ℤ a *ℤ x) (b *ℤ y) in
    let two = mul-sub m (d *ℤ z) (a *ℤ x) in
    let three = sub-mul q (b *ℤ m) y in
    let four = sub-mul p (a *ℤ m) x in
    omega (arith, ints, one, two, three, four, swap-in m d z, swap-in m a x, swap-in m b y)

-- the least end of an interval, times a factor
between : (m low high q : ℤ) → low ≤ℤ q → q ≤ℤ high → int_min (m *ℤ low) (m *ℤ high) ≤ℤ (m *ℤ q)
between m low high q h k =
    elim (sign m) [
      | inl up ↦ (let o = in-order m low q up h in grind (arith, ints))
      | inr down ↦ (let o = against m q high down k in grind (arith, ints))
    ]

-- what one row adds
one-row : (w : Row) (m q p x y z : ℤ) → Fits w x y z
    → (gain w m +ℤ pos 128 *ℤ (q *ℤ y) +ℤ pos 128 *ℤ (p *ℤ x)) ≤ℤ (pos 128 *ℤ ((q -ℤ w.b *ℤ m) *ℤ y) +ℤ pos 128 *ℤ ((p -ℤ w.a *ℤ m) *ℤ x) +ℤ pos 128 *ℤ ((w.d *ℤ m) *ℤ z))
unfolding gain
one-row w m q p x y z f =
    let g = between m w.low w.high (w.d *ℤ z -ℤ w.a *ℤ x -ℤ w.b *ℤ y) f.low f.high in
    let e = exchange w.d w.a w.b m q p x y z in omega (arith, ints, g, e)

-- the parts of one row and the rest
add-up : (g l r q y p x qy px dz : ℤ) (vy ux wz c n : ℕ)
    → (g +ℤ pos 128 *ℤ (q *ℤ y) +ℤ pos 128 *ℤ (p *ℤ x)) ≤ℤ (pos 128 *ℤ qy +ℤ pos 128 *ℤ px +ℤ pos 128 *ℤ dz)
    → (pos 128 *ℤ qy) ≤ℤ (pos (4096 * vy) +ℤ l)
    → (r +ℤ pos 128 *ℤ px +ℤ pos 128 *ℤ dz +ℤ pos (4096 * n)) ≤ℤ pos (4096 * (ux + wz + c))
    → (g -ℤ l +ℤ r +ℤ pos 128 *ℤ (q *ℤ y) +ℤ pos 128 *ℤ (p *ℤ x) +ℤ pos (4096 * n)) ≤ℤ pos (4096 * (vy + ux + (wz + c)))
add-up g l r q y p x qy px dz vy ux wz c n h k t = omega (arith, ints, h, k, t)

-- the parts of the last two places
end-up : (l k q y p x : ℤ) (vy ux c n : ℕ) → (pos 128 *ℤ (q *ℤ y)) ≤ℤ (pos (4096 * vy) +ℤ l) → (pos 128 *ℤ (p *ℤ x)) ≤ℤ (pos (4096 * ux) +ℤ k) → n ≤ c
    → (pos 0 -ℤ l -ℤ k +ℤ pos 128 *ℤ (q *ℤ y) +ℤ pos 128 *ℤ (p *ℤ x) +ℤ pos (4096 * n)) ≤ℤ pos (4096 * (vy + ux + c))
end-up l k q y p x vy ux c n h g o = omega (arith, ints, h, g, o)

pub dual-below : (steps : List ℤ) (ws : List Row) (mus : List ℤ) (i n : ℕ) (layers : List Layer) (v u : Row) (q p y x : ℤ) (c : ℕ)
    → Owes steps layers n → At v y → At u x → Path steps ws layers x y c
    → (bound ws mus i v u q p +ℤ pos 128 *ℤ (q *ℤ y) +ℤ pos 128 *ℤ (p *ℤ x) +ℤ pos (4096 * n)) ≤ℤ pos (4096 * (v.weight * square_of y + u.weight * square_of x + c))
unfolding bound
dual-below steps [] mus i n layers v u q p y x c owes av au path =
    end-up (loss v q) (loss u p) q y p x (v.weight * square_of y) (u.weight * square_of x) c n (share v q y av) (share u p x au) (owes x y c path)
dual-below steps (w ∷ ws) mus i n layers v u q p y x _ owes av au (by_row _ _ _ _ _ z c f path) =
    let m = factor mus i in
    let t = dual-below steps ws mus (suc i) n layers u w (p -ℤ w.a *ℤ m) (w.d *ℤ m) x z c owes au f.at path in
    add-up (gain w m) (loss v (q -ℤ w.b *ℤ m)) (bound ws mus (suc i) u w (p -ℤ w.a *ℤ m) (w.d *ℤ m)) q y p x ((q -ℤ w.b *ℤ m) *ℤ y)
    ((p -ℤ w.a *ℤ m) *ℤ x) ((w.d *ℤ m) *ℤ z) (v.weight * square_of y) (u.weight * square_of x) (w.weight * square_of z) c n
    (one-row w m q p x y z f) (share v (q -ℤ w.b *ℤ m) y av) t
