-- Writing an item into a list: over one that is there, behind the last, in a part of the list.
use Rattle.std.proofs.Common.{◌≡◌, refl, sym, ap, ◌∙◌, arith, ℕ, zero, suc, ◌+◌, ◌<◌, ◌≤◌, List, [], ◌∷◌, ◌++◌, length, slice_set}
use Rattle.std.specs.Prelude.{take, max}
use Rattle.page_pool.specs.Written.{written}

module _ {T : Type 0} where
  -- over an item
  pub written_over : (xs : List T) (i : ℕ) (x : T) → i < length xs → written xs i x ≡ slice_set xs i x
  written_over [] i x h = absurd (omega (arith, h))
  written_over (y ∷ ys) zero x h = refl
  written_over (y ∷ ys) (suc i) x h = ap (λ l. y ∷ l) (written_over ys i x (omega (arith, h)))

  -- behind the last
  pub written_behind : (xs : List T) (i : ℕ) (x : T) → i ≡ length xs → written xs i x ≡ xs ++ x ∷ []
  written_behind [] i x e = refl
  written_behind (y ∷ ys) zero x e = absurd (omega (arith, e))
  written_behind (y ∷ ys) (suc i) x e = ap (λ l. y ∷ l) (written_behind ys i x (omega (arith, e)))

  pub length-written : (xs : List T) (i : ℕ) (x : T) → i ≤ length xs → length (written xs i x) ≡ max (length xs) (i + 1)
  length-written [] zero x h = refl
  length-written [] (suc i) x h = absurd (omega (arith, h))
  length-written (y ∷ ys) zero x h = omega arith
  length-written (y ∷ ys) (suc i) x h = omega (arith, length-written ys i x (omega (arith, h)))

  -- of a front that has the place, or ends before it
  pub take-written : (xs : List T) (n m i : ℕ) (x : T) → i ≤ n → n ≤ length xs → m ≡ max n (i + 1) → take m (written xs i x) ≡ written (take n xs) i x
  take-written xs n zero i x h k e = absurd (omega (arith, e))
  take-written [] zero (suc m) zero x h k e = let none : m ≡ 0 = omega (arith, e) in ap (λ j. x ∷ take {A = T} j []) none
  take-written [] zero (suc m) (suc i) x h k e = absurd (omega (arith, h))
  take-written [] (suc n) (suc m) i x h k e = absurd (omega (arith, k))
  take-written (y ∷ ys) zero (suc m) zero x h k e = let none : m ≡ 0 = omega (arith, e) in ap (λ j. x ∷ take j ys) none
  take-written (y ∷ ys) zero (suc m) (suc i) x h k e = absurd (omega (arith, h))
  take-written (y ∷ ys) (suc n) (suc m) zero x h k e = let same : m ≡ n = omega (arith, e) in ap (λ j. x ∷ take j ys) same
  take-written (y ∷ ys) (suc n) (suc m) (suc i) x h k e = ap (λ l. y ∷ l) (take-written ys n m i x (omega (arith, h)) (omega (arith, k)) (omega (arith, e)))

  -- in the first of two lists, which is the only one where the place is behind it
  pub written_left : (xs ys : List T) (i : ℕ) (x : T) → i ≤ length xs → (length xs ≤ i → ys ≡ []) → written (xs ++ ys) i x ≡ written xs i x ++ ys
  written_left [] ys i x h none = let e = none (omega arith) in ap (λ l. written l i x) e ∙ ap (λ l. x ∷ l) (sym e)
  written_left (y ∷ xs) ys zero x h none = refl
  written_left (y ∷ xs) ys (suc i) x h none = ap (λ l. y ∷ l) (written_left xs ys i x (omega (arith, h)) (λ k. none (omega (arith, k))))

  -- in the second of two lists
  pub written_right : (xs ys : List T) (i j : ℕ) (x : T) → i ≡ length xs + j → written (xs ++ ys) i x ≡ xs ++ written ys j x
  written_right [] ys i j x e = let same : i ≡ j = omega (arith, e) in ap (λ k. written ys k x) same
  written_right (y ∷ xs) ys zero j x e = absurd (omega (arith, e))
  written_right (y ∷ xs) ys (suc i) j x e = ap (λ l. y ∷ l) (written_right xs ys i j x (omega (arith, e)))
