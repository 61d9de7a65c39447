-- The direction lemma: the bound grows as the last row's interval moves to the side of its factor's sign.
use Rattle.std.proofs.Common.{◌≡◌, ℕ, suc, ◌+◌, ◌*◌, arith, ap, subst, ◌∙◌, sym, refl, inl, inr}
use Rattle.std.specs.Prelude.{ℤ, pos, ◌*ℤ◌, ◌-ℤ◌, ◌≤ℤ◌, Bool, if◌then◌else◌, List, [], ◌∷◌, ◌++◌, length}
use Rattle.std.specs.Int.{div_ceil, int_min}
use Rattle.std.proofs.lemmas.Int.{ints}
use Rattle.row_bound.specs.declared.row.Row.{Row}
use Rattle.adpcm_nums.specs.Nums.{square_of}
use Rattle.row_bound.specs.Bound.{loss, gain, factor, bound, Outward}
use Rattle.adpcm_nums.proofs.ProductLaws.{in-order}
use Rattle.row_bound.proofs.Orders.{against}

-- the less of two ends that both rise
less-of : (a b c d : ℤ) → a ≤ℤ c → b ≤ℤ d → int_min a b ≤ℤ int_min c d
less-of a b c d h k = grind (arith, ints)

-- the gain of a row further out
gain-out : (m : ℤ) (w z : Row) → Outward m w z → gain w m ≤ℤ gain z m
unfolding gain
gain-out m w z o =
    elim o.side [
      | inl s ↦ (let t = less-of _ _ _ _ (in-order m w.low z.low s.0 s.1) (in-order m w.high z.high s.0 s.2) in omega (arith, ints, t))
      | inr s ↦ (let t = less-of _ _ _ _ (against m z.low w.low s.0 s.1) (against m z.high w.high s.0 s.2) in omega (arith, ints, t))
    ]

-- the loss as a function of a row's fields
loss-by : Bool → ℤ → ℕ → ℤ → ℤ
loss-by known out weight l = if known then pos 128 *ℤ (l *ℤ out) -ℤ pos (4096 * (weight * square_of out)) else pos (div_ceil (square_of l) weight)

loss-is : (w : Row) (l : ℤ) → loss w l ≡ loss-by w.known w.out w.weight l
unfolding loss loss-by
loss-is w l = refl

-- rows with the same fields lose the same
loss-same : (w z : Row) (l k : ℤ) → w.known ≡ z.known → w.out ≡ z.out → w.weight ≡ z.weight → l ≡ k → loss w l ≡ loss z k
loss-same w z l k a b c e =
    loss-is w l ∙ (ap (λ t. loss-by t w.out w.weight l) a ∙ (ap (λ t. loss-by z.known t w.weight l) b ∙ (ap (λ t. loss-by z.known z.out t l) c ∙ (ap (loss-by z.known z.out z.weight) e ∙ sym (loss-is z k)))))

zero-plus : (i : ℕ) → 0 + i ≡ i
zero-plus i = omega arith

suc-plus : (n i : ℕ) → suc n + i ≡ n + suc i
suc-plus n i = omega arith

-- one induction: only the last row's gain changes
pub bound-out : (ws : List Row) (mus : List ℤ) (i : ℕ) (v u w z : Row) (q p : ℤ) → Outward (factor mus (length ws + i)) w z
    → bound (ws ++ (w ∷ [])) mus i v u q p ≤ℤ bound (ws ++ (z ∷ [])) mus i v u q p
unfolding bound
bound-out [] mus i v u w z q p o =
    let m = factor mus i in
    let g = gain-out m w z (subst (λ (t : ℕ). Outward (factor mus t) w z) (zero-plus i) o) in
    let e = ap (λ t. loss v (q -ℤ t *ℤ m)) o.b in
    let f = ap (λ t. loss u (p -ℤ t *ℤ m)) o.a in
    let h = loss-same w z (w.d *ℤ m) (z.d *ℤ m) o.known o.out o.weight (ap (λ t. t *ℤ m) o.d) in
    omega (arith, ints, g, e, f, h)
bound-out (x ∷ ws) mus i v u w z q p o =
    let m = factor mus i in
    let t = bound-out ws mus (suc i) u x w z (p -ℤ x.a *ℤ m) (x.d *ℤ m) (subst (λ (t : ℕ). Outward (factor mus t) w z) (suc-plus (length ws) i) o) in omega (arith, ints, t)
