-- Empty pages that are added one after another, and cut off again.
use Rattle.std.proofs.Common.{◌≡◌, refl, sym, ap, ◌∙◌, arith, ℕ, zero, suc, ◌+◌, ◌-◌, ◌≤◌, List, [], ◌∷◌, ◌++◌, length}
use Rattle.std.specs.Prelude.{take, replicate, Result, Ok, Err, OnOk, OnErr}
use Rattle.std.proofs.lemmas.List.{append_assoc, append-nil, length-append, length-replicate, take-append-le, take_all}

module _ {T : Type 0} (x : T) where
  one_more : (k : ℕ) → replicate k x ++ x ∷ [] ≡ x ∷ replicate k x
  one_more zero = refl
  one_more (suc k) = ap (λ l. x ∷ l) (one_more k)

  pub none_added : (xs : List T) (n : ℕ) → n ≡ 0 → xs ≡ xs ++ replicate n x
  none_added xs n e = sym (append-nil xs) ∙ ap (λ k. xs ++ replicate k x) (sym e)

  pub one_added : (old now more : List T) (before : ℕ) → before ≤ length now → now ≡ old ++ replicate (length now - before) x → more ≡ now ++ x ∷ []
      → more ≡ old ++ replicate (length more - before) x
  one_added old now more before h added e =
      let n = length now - before in
      let long : suc n ≡ length more - before = omega (arith, h, ap length e, length-append now (x ∷ [])) in
      e ∙ ap (λ l. l ++ x ∷ []) added ∙ append_assoc old (replicate n x) (x ∷ []) ∙ ap (λ l. old ++ l) (one_more n) ∙ ap (λ k. old ++ replicate k x) long

  pub cut_off : (old now : List T) (before k : ℕ) → before ≡ length old → now ≡ old ++ replicate k x → take before now ≡ old
  cut_off old now before k e added =
      ap (λ l. take before l) added ∙ take-append-le before old (replicate k x) (omega (arith, e)) ∙ take_all before old (omega (arith, e))

  pub length-added : (old now : List T) (k : ℕ) → now ≡ old ++ replicate k x → length now ≡ length old + k
  length-added old now k added = ap length added ∙ length-append old (replicate k x) ∙ ap (λ n. length old + n) (length-replicate k x)

  -- whether the growth was refused or not, some were added, at most as many as were wanted
  pub added_or_not : {E : Type 0} (r : Result (Unit {0}) E) (old now : List T) (k : ℕ) → OnOk r (now ≡ old ++ replicate k x) → OnErr r (now ≡ old)
      → (n : ℕ) × (now ≡ old ++ replicate n x) × (n ≤ k)
  added_or_not (Ok _) old now k added same = (k, added, omega arith)
  added_or_not (Err _) old now k added same = (0, same ∙ none_added old 0 refl, omega arith)
