-- Laws of the first least place.
use Rattle.std.proofs.Common.{◌≡◌, ℕ, zero, suc, ◌+◌, ◌<◌, ◌≤◌, nat_lt, add-one, if◌then◌else◌, refl, subst, ap, ◌∙◌, arith, inl, inr}
use Rattle.std.proofs.lemmas.Bool.{cases_lt, cases_order, ltb-true, ltb-false, cond_both}
use Rattle.adpcm_nums.specs.Least.{IsFirstLeast, first_least}

-- one more number, which is less
pub first_least_more : (f : ℕ → ℕ) (n b : ℕ) → IsFirstLeast f n b → f n < f b → IsFirstLeast f (suc n) n
first_least_more f n b p h = record {
  within = omega arith;
  least = λ k l. elim (cases_lt k n) [ inl below ↦ omega (arith, p.least k below) | inr here ↦ let e : k ≡ n = omega arith in let P : ℕ → Type 0 = λ m. f n ≤ f m in subst P (let e' : n ≡ k = omega arith in e') (omega arith) ];
  first = λ k l. omega (arith, p.least k l);
}

-- one more number, which is not
pub first_least_same : (f : ℕ → ℕ) (n b : ℕ) → IsFirstLeast f n b → f b ≤ f n → IsFirstLeast f (suc n) b
first_least_same f n b p h = record {
  within = let w : b < n = p.within in omega arith;
  least = λ k l. elim (cases_lt k n) [ inl below ↦ p.least k below | inr here ↦ let P : ℕ → Type 0 = λ m. f b ≤ f m in subst P (let e : n ≡ k = omega arith in e) h ];
  first = p.first;
}

-- of one number, 0 is the first least place
pub first_least_one : (f : ℕ → ℕ) → IsFirstLeast f 1 0
first_least_one f = record { within = omega arith; least = λ k l. let P : ℕ → Type 0 = λ m. f 0 ≤ f m in subst P (let e : 0 ≡ k = omega arith in e) (omega arith); first = λ k l. absurd (omega arith) }

-- one more number: the place moves to it where it is less, and else stays
pub first_least-step : (f : ℕ → ℕ) (n b : ℕ) → IsFirstLeast f n b → IsFirstLeast f (suc n) (if nat_lt (f n) (f b) then n else b)
first_least-step f n b p =
    cond_both (nat_lt (f n) (f b)) n b (λ i. IsFirstLeast f (suc n) i)
    (λ e. first_least_more f n b p (ltb-true _ _ e)) (λ e. first_least_same f n b p (ltb-false _ _ e))

-- of one number, 0 is found
pub first_least-zero : (f : ℕ → ℕ) → first_least f 1 ≡ 0
unfolding first_least
first_least-zero f = cond_both (nat_lt (f 0) (f 0)) 0 0 (λ i. i ≡ 0) (λ _. refl) (λ _. refl)

-- what is found is the first least place
pub first_least-is : (f : ℕ → ℕ) (n : ℕ) → IsFirstLeast f (suc n) (first_least f (suc n))
unfolding first_least
first_least-is f zero = let P : ℕ → Type 0 = λ i. IsFirstLeast f 1 i in subst P (let e : 0 ≡ first_least f 1 = (cc (first_least-zero f)) in e) (first_least_one f)
first_least-is f (suc n) = first_least-step f (suc n) (first_least f (suc n)) (first_least-is f n)

-- there is one such number
pub same_first_least : (f : ℕ → ℕ) (n i j : ℕ) → IsFirstLeast f n i → IsFirstLeast f n j → i ≡ j
same_first_least f n i j p q =
    elim (cases_order i j) [ inl e ↦ e | inr o ↦ elim o [ inl below ↦ absurd (omega (arith, q.first i below, p.least j q.within)) | inr above ↦ absurd (omega (arith, p.first j above, q.least i p.within)) ] ]

-- what a loop over the numbers has found
pub is_first_least : (f : ℕ → ℕ) (n i : ℕ) → IsFirstLeast f (suc n) i → i ≡ first_least f (suc n)
is_first_least f n i p = same_first_least f (suc n) i (first_least f (suc n)) p (first_least-is f n)

-- one more number, as a loop counts: it is less
pub least_moves : (f : ℕ → ℕ) (n b : ℕ) → IsFirstLeast f n b → f n < f b → IsFirstLeast f (n + 1) n
least_moves f n b p h = rw add-one (first_least_more f n b p h)

-- or it is not
pub least_stays : (f : ℕ → ℕ) (n b : ℕ) → IsFirstLeast f n b → f b ≤ f n → IsFirstLeast f (n + 1) b
least_stays f n b p h = rw add-one (first_least_same f n b p h)

-- what a loop that has come to n has found
pub is_first_least_at : (f : ℕ → ℕ) (m n i : ℕ) → IsFirstLeast f m i → m ≡ n → i ≡ first_least f n
is_first_least_at f zero n i p e = absurd (let w : i < 0 = p.within in omega arith)
is_first_least_at f (suc m) n i p e = is_first_least f m i p ∙ ap (first_least f) e
