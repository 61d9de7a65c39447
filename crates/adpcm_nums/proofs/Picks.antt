-- Two numbers lead all others: the first of them at which a function is least is the first of all.
use Rattle.std.proofs.Common.{◌≡◌, ℕ, ◌<◌, ◌≤◌, ◌⊎◌, inl, inr, arith, ap, min, nat_lt, subst, if◌then◌else◌}
use Rattle.std.proofs.lemmas.Bool.{cases_lt, cond_both, ltb-true, ltb-false}
use Rattle.adpcm_nums.specs.Least.{IsFirstLeast}
use Rattle.adpcm_nums.specs.Picks.{first_of_two}

-- the function is greater at c than at a, unless c is a
pub data Leads (f : ℕ → ℕ) (a c : ℕ) : Type 0 where
  itself : c ≡ a → Leads f a c
  less : f a < f c → Leads f a c

pub leads-le : (f : ℕ → ℕ) (a c : ℕ) → Leads f a c → f a ≤ f c
leads-le f a c (itself e) = let same = ap f e in omega arith
leads-le f a c (less h) = omega arith

-- before a it is less at a
pub leads-before : (f : ℕ → ℕ) (a c : ℕ) → Leads f a c → c < a → f a < f c
leads-before f a c (itself e) before = absurd (omega arith)
leads-before f a c (less h) before = h

second-is-less : (f : ℕ → ℕ) (n a b : ℕ) → b < n → f b < f a → ((c : ℕ) → c < n → Leads f a c ⊎ Leads f b c) → IsFirstLeast f n b
second-is-less f n a b within h led = record {
  within = within;
  least = λ k below. elim (led k below) [ inl l ↦ (let le = leads-le f a k l in omega arith) | inr l ↦ leads-le f b k l ];
  first = λ k before. elim (led k (omega arith)) [ inl l ↦ (let le = leads-le f a k l in omega arith) | inr l ↦ leads-before f b k l before ];
}

swapped : (f : ℕ → ℕ) (n a b : ℕ) → ((c : ℕ) → c < n → Leads f a c ⊎ Leads f b c) → (c : ℕ) → c < n → Leads f b c ⊎ Leads f a c
swapped f n a b led c below = elim (led c below) as (λ _. Leads f b c ⊎ Leads f a c) [ inl l ↦ inr l | inr l ↦ inl l ]

-- where both are as good
same-is-first : (f : ℕ → ℕ) (n a b i : ℕ) → i < n → i ≤ a → i ≤ b → f i ≤ f a → f i ≤ f b → ((c : ℕ) → c < n → Leads f a c ⊎ Leads f b c) → IsFirstLeast f n i
same-is-first f n a b i within before_a before_b le_a le_b led = record {
  within = within;
  least = λ k below. elim (led k below) [ inl l ↦ (let le = leads-le f a k l in omega arith) | inr l ↦ (let le = leads-le f b k l in omega arith) ];
  first = λ k before. elim (led k (omega arith)) [ inl l ↦ (let lt = leads-before f a k l (omega arith) in omega arith) | inr l ↦ (let lt = leads-before f b k l (omega arith) in omega arith) ];
}

earlier : (f : ℕ → ℕ) (n a b : ℕ) → a < n → b < n → f a ≡ f b → ((c : ℕ) → c < n → Leads f a c ⊎ Leads f b c) → IsFirstLeast f n (min a b)
earlier f n a b within_a within_b same led =
    elim (cases_lt a b) [
      | inl before ↦ (let e : a ≡ min a b = omega arith in subst (IsFirstLeast f n) e (same-is-first f n a b a within_a (omega arith) (omega arith) (omega arith) (omega arith) led))
      | inr behind ↦ (let e : b ≡ min a b = omega arith in subst (IsFirstLeast f n) e (same-is-first f n a b b within_b (omega arith) (omega arith) (omega arith) (omega arith) led))
    ]

pub first-of-two-is : (f : ℕ → ℕ) (n a b : ℕ) → a < n → b < n → ((c : ℕ) → c < n → Leads f a c ⊎ Leads f b c) → IsFirstLeast f n (first_of_two f a b)
first-of-two-is f n a b within_a within_b led =
    cond_both (nat_lt (f b) (f a)) b (if nat_lt (f a) (f b) then a else min a b) (IsFirstLeast f n)
    (λ t. second-is-less f n a b within_b (ltb-true _ _ t) led)
    (λ t. cond_both (nat_lt (f a) (f b)) a (min a b) (IsFirstLeast f n)
    (λ u. second-is-less f n b a within_a (ltb-true _ _ u) (swapped f n a b led))
    (λ u. earlier f n a b within_a within_b (let le = ltb-false _ _ t in let ge = ltb-false _ _ u in omega arith) led))
