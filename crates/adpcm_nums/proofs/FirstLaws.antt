-- Laws of the first number that passes a test.
use Rattle.std.proofs.Common.{◌≡◌, ℕ, zero, suc, ◌+◌, ◌<◌, ◌⊎◌, inl, inr, Bool, true, false, if◌then◌else◌, refl, sym, ap, ◌∙◌, arith, add-one, subst}
use Rattle.std.specs.Prelude.{◌==◌, Option, Some, None}
use Rattle.std.proofs.lemmas.Bool.{cases_Bool, eq-eqb, ne_eqb}
use Rattle.adpcm_nums.specs.First.{or_first, first_where}

-- i is the first of the numbers below n that passes
pub record IsFirst (passes : ℕ → Bool) (n i : ℕ) : Type 0 where
  pub within : i < n
  pub here : passes i ≡ true
  pub before : (k : ℕ) → k < i → passes k ≡ false

first-suc : (passes : ℕ → Bool) (n : ℕ) → first_where passes (suc n) ≡ or_first (first_where passes n) (if passes n then Some n else None)
unfolding first_where
first-suc passes n = refl

-- of no numbers none is found
pub none_at_zero : (passes : ℕ → Bool) → first_where passes 0 ≡ None
unfolding first_where
none_at_zero passes = refl

-- after numbers that do not pass comes another that does not
pub none_more : (passes : ℕ → Bool) (n : ℕ) → first_where passes n ≡ None → passes n ≡ false → first_where passes (n + 1) ≡ None
none_more passes n none fails =
    ap (first_where passes) (add-one n) ∙ first-suc passes n ∙ ap (λ (o : Option ℕ). or_first o (if passes n then Some n else None)) none
    ∙ ap (λ (b : Bool). if b then Some n else None) fails

-- after numbers that do not pass comes one that does
pub first_here : (passes : ℕ → Bool) (n : ℕ) → first_where passes n ≡ None → passes n ≡ true → first_where passes (suc n) ≡ Some n
first_here passes n none holds =
    first-suc passes n ∙ ap (λ (o : Option ℕ). or_first o (if passes n then Some n else None)) none
    ∙ ap (λ (b : Bool). if b then Some n else None) holds

-- what was found first stays the first
pub first_stays : (passes : ℕ → Bool) (n i : ℕ) → first_where passes n ≡ Some i → first_where passes (suc n) ≡ Some i
first_stays passes n i found = first-suc passes n ∙ ap (λ (o : Option ℕ). or_first o (if passes n then Some n else None)) found

below-or-last : (i n : ℕ) → i < suc n → (i < n) ⊎ (i ≡ n)
below-or-last i n h = grind arith

-- a loop that comes to the first number that passes has found it
pub first_found : (passes : ℕ → Bool) (n i : ℕ) → i < n → first_where passes i ≡ None → passes i ≡ true → first_where passes n ≡ Some i
first_found passes zero i h none holds = absurd (omega arith)
first_found passes (suc n) i h none holds =
    elim (below-or-last i n h) [
      | inl below ↦ first_stays passes n i (first_found passes n i below none holds)
      | inr last ↦ subst (λ (k : ℕ). first_where passes (suc k) ≡ Some i) last (first_here passes i none holds)
    ]

some-or-none : (o : Option ℕ) → (o ≡ None) ⊎ ((i : ℕ) × (o ≡ Some i))
some-or-none None = inl refl
some-or-none (Some i) = inr (i, refl)

none-before : (passes : ℕ → Bool) (n : ℕ) → first_where passes (suc n) ≡ None → first_where passes n ≡ None
none-before passes n none =
    elim (some-or-none (first_where passes n)) [
      | inl before ↦ before
      | inr found ↦ absurd (let e : Some found.0 ≡ None = sym (first_stays passes n found.0 found.1) ∙ none in cc)
    ]

none-here : (passes : ℕ → Bool) (n : ℕ) → first_where passes (suc n) ≡ None → passes n ≡ false
none-here passes n none =
    elim (cases_Bool (passes n)) [
      | inl holds ↦ absurd (let e : Some n ≡ None = sym (first_here passes n (none-before passes n none) holds) ∙ none in cc)
      | inr fails ↦ fails
    ]

-- where none was found, none passes
pub none_passes : (passes : ℕ → Bool) (n k : ℕ) → first_where passes n ≡ None → k < n → passes k ≡ false
none_passes passes zero k none h = absurd (omega arith)
none_passes passes (suc n) k none h =
    elim (below-or-last k n h) [
      | inl below ↦ none_passes passes n k (none-before passes n none) below
      | inr last ↦ ap passes last ∙ none-here passes n none
    ]

found-here : (passes : ℕ → Bool) (n i : ℕ) → first_where passes n ≡ None → passes n ≡ true → n ≡ i → IsFirst passes (suc n) i
found-here passes n i none holds is =
    let P : ℕ → Type 0 = λ k. IsFirst passes (suc n) k in
    subst P is (record { within = omega arith; here = holds; before = λ k h. none_passes passes n k none h })

found-before : (passes : ℕ → Bool) (n i j : ℕ) → IsFirst passes n j → j ≡ i → IsFirst passes (suc n) i
found-before passes n i j found is =
    let P : ℕ → Type 0 = λ k. IsFirst passes (suc n) k in
    subst P is (record { within = let w : j < n = found.within in omega arith; here = found.here; before = found.before })

-- what was found is the first that passes
pub first_where-is : (passes : ℕ → Bool) (n i : ℕ) → first_where passes n ≡ Some i → IsFirst passes n i
first_where-is passes zero i found = absurd (let e : None ≡ Some i = sym (none_at_zero passes) ∙ found in cc)
first_where-is passes (suc n) i found =
    elim (some-or-none (first_where passes n)) [
      | inl none ↦ elim (cases_Bool (passes n)) [
        | inl holds ↦ found-here passes n i none holds (let e : Some n ≡ Some i = sym (first_here passes n none holds) ∙ found in cc)
        | inr fails ↦ absurd (let e : None ≡ Some i = sym (none_more passes n none fails) ∙ ap (first_where passes) (add-one n) ∙ found in cc)
      ]
      | inr before ↦ found-before passes n i before.0 (first_where-is passes n before.0 before.1) (let e : Some before.0 ≡ Some i = sym (first_stays passes n before.0 before.1) ∙ found in cc)
    ]

-- where none passes, none is found
pub none_found : (passes : ℕ → Bool) (n : ℕ) → ((k : ℕ) → k < n → passes k ≡ false) → first_where passes n ≡ None
none_found passes zero fails = none_at_zero passes
none_found passes (suc n) fails =
    ap (first_where passes) (sym (add-one n)) ∙ none_more passes n (none_found passes n (λ k h. fails k (omega arith))) (fails n (omega arith))

-- the first that passes is found
pub is_found : (passes : ℕ → Bool) (n i : ℕ) → IsFirst passes n i → first_where passes n ≡ Some i
is_found passes n i first = first_found passes n i first.within (none_found passes i first.before) first.here

-- of the numbers up to the first that passes only the last does
pub first_alone : (passes : ℕ → Bool) (n i : ℕ) → IsFirst passes n i → (k : ℕ) → k < suc i → passes k ≡ (suc k == suc i)
first_alone passes n i first k h =
    elim (below-or-last k i h) [
      | inl before ↦ first.before k before ∙ sym (ne_eqb (suc k) (suc i) (omega arith))
      | inr is ↦ ap passes is ∙ first.here ∙ sym (eq-eqb (suc k) (suc i) (ap suc is))
    ]
