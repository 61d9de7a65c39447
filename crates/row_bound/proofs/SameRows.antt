-- Rows with the same fields have the same paths.
use Rattle.std.proofs.Common.{◌≡◌, ℕ, ◌+◌, ◌*◌, arith, ap, subst, ◌∙◌, sym, refl}
use Rattle.std.specs.Prelude.{ℤ, ◌-ℤ◌, ◌*ℤ◌, ◌≤ℤ◌, List, [], ◌∷◌, ◌++◌}
use Rattle.std.proofs.lemmas.Int.{ints}
use Rattle.adpcm_nums.specs.Nums.{square_of}
use Rattle.row_bound.specs.declared.row.Row.{Row}
use Rattle.row_bound.specs.declared.layer.Layer.{Layer}
use Rattle.row_bound.specs.Rows.{Fits, IsMoved}
use Rattle.row_bound.specs.Paths.{Path, by_row, OwesFrom}
use Rattle.row_bound.specs.Guards.{Above}

sum-as : (w z : Row) (x y t : ℤ) → w.d ≡ z.d → w.a ≡ z.a → w.b ≡ z.b → w.d *ℤ t -ℤ w.a *ℤ x -ℤ w.b *ℤ y ≡ z.d *ℤ t -ℤ z.a *ℤ x -ℤ z.b *ℤ y
sum-as w z x y t p q r =
    ap (λ s. s *ℤ t -ℤ w.a *ℤ x -ℤ w.b *ℤ y) p ∙ (ap (λ s. z.d *ℤ t -ℤ s *ℤ x -ℤ w.b *ℤ y) q ∙ ap (λ s. z.d *ℤ t -ℤ z.a *ℤ x -ℤ s *ℤ y) r)

fits-as : (w z : Row) (x y t : ℤ) → Above w z → Above z w → Fits z x y t → Fits w x y t
fits-as w z x y t up down f =
    let e = sum-as w z x y t up.d up.a up.b in
    let low = up.low in let high = down.high in let fl = f.low in let fh = f.high in
    record { low = omega (arith, ints, e, low, fl); high = omega (arith, ints, e, high, fh); at = λ k. f.at (sym up.known ∙ k) ∙ sym up.out }

weighed-as : (n m k c : ℕ) → n ≡ m → n * k + c ≡ m * k + c
weighed-as n m k c e = ap (λ t. t * k + c) e

-- the last row of a path is replaced
path-as : (steps : List ℤ) (ws : List Row) (layers : List Layer) (w z : Row) (x y : ℤ) (c : ℕ) → Above w z → Above z w → Path steps (ws ++ (z ∷ [])) layers x y c → Path steps (ws ++ (w ∷ [])) layers x y c
path-as steps [] layers w z x y _ up down (by_row _ _ _ _ _ t c f p) =
    subst (λ (n : ℕ). Path steps (w ∷ []) layers x y n) (weighed-as w.weight z.weight (square_of t) c up.weight) (by_row w [] layers x y t c (fits-as w z x y t up down f) p)
path-as steps (v ∷ ws) layers w z x y _ up down (by_row _ _ _ _ _ t c f p) = by_row v (ws ++ (w ∷ [])) layers x y t c f (path-as steps ws layers w z t x c up down p)

pub owes-as : (steps : List ℤ) (v u : Row) (ws : List Row) (layers : List Layer) (w z : Row) (n : ℕ) → Above w z → Above z w → OwesFrom steps v u (ws ++ (w ∷ [])) layers n → OwesFrom steps v u (ws ++ (z ∷ [])) layers n
owes-as steps v u ws layers w z n up down o y x c path = o y x c (path-as steps ws layers w z x y c up down path)

-- a row moved further up
pub moved-above : (base w z : Row) (s r : ℤ) → IsMoved base s w → IsMoved base r z → s ≤ℤ r → Above w z
moved-above base w z s r m k h =
    let ml = m.low in let mh = m.high in let kl = k.low in let kh = k.high in
    record { d = m.d ∙ sym k.d; a = m.a ∙ sym k.a; b = m.b ∙ sym k.b; weight = m.weight ∙ sym k.weight; known = m.known ∙ sym k.known; out = m.out ∙ sym k.out; low = omega (arith, ints, ml, kl, h); high = omega (arith, ints, mh, kh, h) }

pub same-row : (z : Row) → Above z z
same-row z = record { d = refl; a = refl; b = refl; weight = refl; known = refl; out = refl; low = omega (arith, ints); high = omega (arith, ints) }
