-- The bound, one row after another.
use Rattle.std.proofs.Common.{◌≡◌, ℕ, zero, suc, ◌+◌, ◌<◌, ◌≤◌, arith, ap, ◌∙◌, sym}
use Rattle.std.specs.Prelude.{ℤ, pos, ◌*ℤ◌, ◌+ℤ◌, ◌-ℤ◌, List, [], ◌∷◌, drop, length, get_or}
use Rattle.std.proofs.lemmas.Int.{ints}
use Rattle.std.proofs.lemmas.Grind.{common_steps}
use Rattle.row_bound.specs.declared.row.Row.{Row}
use Rattle.row_bound.specs.Bound.{loss, gain, factor, bound}

abbrev step-of : Row → List Row → List ℤ → ℕ → Row → Row → ℤ → ℤ → ℤ → ℤ
step-of w ws mus i v u q p m = gain w m -ℤ loss v (q -ℤ w.b *ℤ m) +ℤ bound ws mus (suc i) u w (p -ℤ w.a *ℤ m) (w.d *ℤ m)

pub bound-more : (w : Row) (ws xs : List Row) (mus : List ℤ) (i : ℕ) (v u : Row) (q p m l total part q' p' r : ℤ) → xs ≡ w ∷ ws → m ≡ factor mus i
    → r ≡ total +ℤ bound xs mus i v u q p → part ≡ gain w m -ℤ loss v l → l ≡ q -ℤ w.b *ℤ m → q' ≡ p -ℤ w.a *ℤ m → p' ≡ w.d *ℤ m
    → r ≡ total +ℤ part +ℤ bound ws mus (suc i) u w q' p'
unfolding bound
bound-more w ws xs mus i v u q p m l total part q' p' r ex em er ep el eq ed =
    let b : bound xs mus i v u q p ≡ bound (w ∷ ws) mus i v u q p = ap (λ z. bound z mus i v u q p) ex in
    let k : bound (w ∷ ws) mus i v u q p ≡ step-of w ws mus i v u q p m = ap (step-of w ws mus i v u q p) (sym em) in
    let one : loss v l ≡ loss v (q -ℤ w.b *ℤ m) = ap (loss v) el in
    let two : bound ws mus (suc i) u w q' p' ≡ bound ws mus (suc i) u w (p -ℤ w.a *ℤ m) (w.d *ℤ m) = ap (λ z. bound ws mus (suc i) u w z p') eq ∙ ap (λ z. bound ws mus (suc i) u w (p -ℤ w.a *ℤ m) z) ed in
    let whole : bound xs mus i v u q p ≡ gain w m -ℤ loss v (q -ℤ w.b *ℤ m) +ℤ bound ws mus (suc i) u w (p -ℤ w.a *ℤ m) (w.d *ℤ m) = b ∙ k in
    omega (arith, ints, er, ep, one, two, whole)

pub bound-last : (xs : List Row) (mus : List ℤ) (i : ℕ) (v u : Row) (q p total l r : ℤ) → xs ≡ [] → r ≡ total +ℤ bound xs mus i v u q p → l ≡ loss v q +ℤ loss u p → total -ℤ l ≡ r
unfolding bound
bound-last xs mus i v u q p total l r ex er el =
    let b : bound xs mus i v u q p ≡ pos 0 -ℤ loss v q -ℤ loss u p = ap (λ z. bound z mus i v u q p) ex in omega (arith, ints, er, el, b)

pub drop-at : {X : Type 0} → (xs : List X) (i : ℕ) (x : X) → i < length xs → x ≡ get_or xs i x → drop i xs ≡ x ∷ drop (suc i) xs
drop-at [] i x h e = absurd (omega (arith, h))
drop-at (y ∷ ys) zero x h e = ap (λ z. z ∷ ys) (sym e)
drop-at (y ∷ ys) (suc i) x h e = drop-at ys i x (omega (arith, h)) e

pub drop-end : {X : Type 0} → (xs : List X) (i : ℕ) → length xs ≤ i → drop i xs ≡ []
drop-end [] i h = grind (arith, common_steps)
drop-end (y ∷ ys) zero h = absurd (omega (arith, h))
drop-end (y ∷ ys) (suc i) h = drop-end ys i (omega (arith, h))

pub next : (i : ℕ) → suc i ≡ i + 1
next i = omega arith

-- one row more, as the code holds its numbers
pub loop-more : (rows : List Row) (mus : List ℤ) (i : ℕ) (w v u : Row) (q p m l total part q' p' m' t q'' p'' r : ℤ) → i < length rows → w ≡ get_or rows i w
    → r ≡ total +ℤ bound (drop i rows) mus i v u q p
    → m ≡ factor mus i → m' ≡ m → l ≡ q -ℤ w.b *ℤ m' → part ≡ gain w m' -ℤ loss v l → q' ≡ p -ℤ w.a *ℤ m' → p' ≡ w.d *ℤ m' → t ≡ total +ℤ part → q'' ≡ q' → p'' ≡ p'
    → r ≡ t +ℤ bound (drop (i + 1) rows) mus (i + 1) u w q'' p''
loop-more rows mus i w v u q p m l total part q' p' m' t q'' p'' r h ew er em em' el ep eq ed et eq' ed' =
    let k = bound-more w (drop (suc i) rows) (drop i rows) mus i v u q p m' l total part q'' p'' r (drop-at rows i w h ew) (em' ∙ em) er ep el (eq' ∙ eq) (ed' ∙ ed) in
    k ∙ ap (λ j. total +ℤ part +ℤ bound (drop j rows) mus j u w q'' p'') (next i) ∙ ap (λ z. z +ℤ bound (drop (i + 1) rows) mus (i + 1) u w q'' p'') (sym et)
