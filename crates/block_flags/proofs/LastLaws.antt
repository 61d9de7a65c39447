-- Laws of the last number that passes a test.
use Rattle.std.proofs.Common.{◌≡◌, ℕ, zero, suc, ◌+◌, ◌<◌, ◌≤◌, ◌⊎◌, inl, inr, Bool, true, false, if◌then◌else◌, refl, sym, ap, ◌∙◌, arith, add-one}
use Rattle.std.specs.Prelude.{Option, Some, None}
use Rattle.std.proofs.lemmas.Bool.{cases_Bool, true≢false}
use Rattle.block_flags.specs.Last.{last_where}

-- of no numbers none passes
pub last_none : (test : ℕ → Bool) → last_where test 0 ≡ None
unfolding last_where
last_none test = refl

last-suc : (test : ℕ → Bool) (n : ℕ) → last_where test (suc n) ≡ (if test n then Some n else last_where test n)
unfolding last_where
last-suc test n = refl

-- one more number that passes is the last
pub last-here : (test : ℕ → Bool) (n : ℕ) → test n ≡ true → last_where test (suc n) ≡ Some n
last-here test n h = last-suc test n ∙ ap (λ (b : Bool). if b then Some n else last_where test n) h

-- one more that does not changes nothing
pub last-before : (test : ℕ → Bool) (n : ℕ) → test n ≡ false → last_where test (suc n) ≡ last_where test n
last-before test n h = last-suc test n ∙ ap (λ (b : Bool). if b then Some n else last_where test n) h

-- where none passes, there is no last
pub last_of_none : (test : ℕ → Bool) (count : ℕ) → ((k : ℕ) → k < count → test k ≡ false) → last_where test count ≡ None
last_of_none test zero fails = last_none test
last_of_none test (suc n) fails = last-before test n (fails n (omega arith)) ∙ last_of_none test n (λ k h. fails k (omega arith))

below-or-last : (k n : ℕ) → k < suc n → (k < n) ⊎ (k ≡ n)
below-or-last k n h = grind arith

-- where one passes, the last is there, or behind it
pub last_from : (test : ℕ → Bool) (count b : ℕ) → b < count → test b ≡ true → (n : ℕ) × (b ≤ n) × (n < count) × (last_where test count ≡ Some n)
last_from test zero b h passes = absurd (omega arith)
last_from test (suc n) b h passes = elim (cases_Bool (test n)) [
  | inl here ↦ (n, omega arith, omega arith, last-here test n here)
  | inr fails ↦ elim (below-or-last b n h) [
    | inl before ↦ (let found = last_from test n b before passes in (found.0, found.1, omega (arith, found.2), last-before test n fails ∙ found.3))
    | inr is ↦ absurd (true≢false (sym passes ∙ ap test is ∙ fails))
  ]
]

-- one that passes and has none that does behind it is the last
pub last_is : (test : ℕ → Bool) (count b : ℕ) → b < count → test b ≡ true → ((k : ℕ) → b < k → k < count → test k ≡ false) → last_where test count ≡ Some b
last_is test zero b h passes after = absurd (omega arith)
last_is test (suc n) b h passes after = elim (below-or-last b n h) [
  | inl before ↦ last-before test n (after n before (omega arith)) ∙ last_is test n b before passes (λ k more h. after k more (omega arith))
  | inr is ↦ ap (λ (k : ℕ). last_where test (suc k)) (sym is) ∙ last-here test b passes
]

-- the same for a counted number
pub last_more_here : (test : ℕ → Bool) (n : ℕ) → test n ≡ true → last_where test (n + 1) ≡ Some n
last_more_here test n h = ap (last_where test) (add-one n) ∙ last-here test n h

pub last_more_before : (test : ℕ → Bool) (n : ℕ) → test n ≡ false → last_where test (n + 1) ≡ last_where test n
last_more_before test n h = ap (last_where test) (add-one n) ∙ last-before test n h

-- tests that agree have the same last
pub last_same : (test other : ℕ → Bool) (count : ℕ) → ((k : ℕ) → k < count → test k ≡ other k) → last_where test count ≡ last_where other count
last_same test other zero same = last_none test ∙ sym (last_none other)
last_same test other (suc n) same =
    last-suc test n ∙ ap (λ (b : Bool). if b then Some n else last_where test n) (same n (omega arith))
    ∙ ap (λ (o : Option ℕ). if other n then Some n else o) (last_same test other n (λ k h. same k (omega arith))) ∙ sym (last-suc other n)

-- the last is below the bound
pub last_within : (test : ℕ → Bool) (count n : ℕ) → last_where test count ≡ Some n → n < count
last_within test zero n found = absurd (let e : None ≡ Some n = sym (last_none test) ∙ found in cc)
last_within test (suc k) n found = elim (cases_Bool (test k)) [
  | inl here ↦ (let same : Some k ≡ Some n = sym (last-here test k here) ∙ found in let e : k ≡ n = cc in omega (arith, e))
  | inr fails ↦ (let before = last_within test k n (sym (last-before test k fails) ∙ found) in omega arith)
]
