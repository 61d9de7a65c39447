-- What holds of the elements of two lists, pair by pair.
use Rattle.std.proofs.Common.{◌≡◌, ℕ, ◌+◌, List, [], ◌∷◌, ◌++◌, length, get_or, refl, sym, ap, subst, ◌∙◌, arith, inl, inr, Some, slice_get}
use Rattle.std.proofs.lemmas.Bool.{cases_lt}
use Rattle.std.proofs.lemmas.Option.{slice_get_within, slice_get-get_or}
use Rattle.command_plan.proofs.Fronts.{slice_get-front, slice_get-past, length-append}

some-is : {X : Type 0} (x y : X) → Some x ≡ Some y → x ≡ y
some-is x y e = cc

-- what holds of each pair, and of one more
pub all_more : {X Y : Type 0} (R : ℕ → X → Y → Type 0) (xs : List X) (ys all : List Y) (k : ℕ) (x : X) (y : Y) → slice_get xs k ≡ Some x → length ys ≡ k → all ≡ ys ++ y ∷ []
    → ((j : ℕ) (p : X) (q : Y) → slice_get xs j ≡ Some p → slice_get ys j ≡ Some q → R j p q) → R k x y
    → (j : ℕ) (p : X) (q : Y) → slice_get xs j ≡ Some p → slice_get all j ≡ Some q → R j p q
all_more R xs ys all k x y here count pushed before last j p q left right =
    let now : slice_get (ys ++ y ∷ []) j ≡ Some q = ap (λ zs. slice_get zs j) (sym pushed) ∙ right in
    elim (cases_lt j (length ys)) [
      | inl below ↦ (
          let old = slice_get-get_or ys j q below in
          let same : get_or ys j q ≡ q = some-is (get_or ys j q) q (sym (slice_get-front ys (y ∷ []) j (get_or ys j q) old) ∙ now) in
          before j p q left (old ∙ ap (λ z. Some z) same))
      | inr above ↦ (
          let within = slice_get_within (ys ++ y ∷ []) j q now in
          let size = length-append ys (y ∷ []) in
          let at : j ≡ k = omega (arith, within, size, above, count) in
          let place : length ys + 0 ≡ j = omega (arith, at, count) in
          let mine : y ≡ q = some-is y q (sym (slice_get-past ys (y ∷ []) 0 y refl) ∙ (ap (slice_get (ys ++ y ∷ [])) place ∙ now)) in
          let theirs : x ≡ p = some-is x p (sym here ∙ (ap (slice_get xs) (sym at) ∙ left)) in
          subst (λ i. R i p q) (sym at) (subst (λ z. R k z q) theirs (subst (λ z. R k x z) mine last)))
    ]
