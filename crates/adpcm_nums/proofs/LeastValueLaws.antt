-- Laws of the least value of a function.
use Rattle.std.proofs.Common.{◌≡◌, ℕ, zero, suc, ◌+◌, ◌<◌, ◌≤◌, arith, refl, ap, ◌∙◌, min, ◌⊎◌, inl, inr, add-one}
use Rattle.adpcm_nums.specs.LeastValue.{least, least_of}

-- the least is at most `above`
pub least-above : (n : ℕ) (f : ℕ → ℕ) (above : ℕ) → least n f above ≤ above
unfolding least
least-above zero f above = omega arith
least-above (suc n) f above = let ih = least-above n f above in omega arith

-- and at most each of the numbers
pub least-below : (n : ℕ) (f : ℕ → ℕ) (above k : ℕ) → k < n → least n f above ≤ f k
unfolding least
least-below zero f above k h = absurd (omega arith)
least-below (suc n) f above k h =
    let either : (k < n) ⊎ (k ≡ n) = grind arith in
    elim either [ inl less ↦ (let ih = least-below n f above k less in omega arith) | inr same ↦ (let e = ap f same in omega arith) ]

-- of no numbers it is `above`
pub least-none : (f : ℕ → ℕ) (above : ℕ) → above ≡ least 0 f above
unfolding least
least-none f above = refl

-- a loop's step
pub least_more : (n : ℕ) (f : ℕ → ℕ) (above best v : ℕ) → best ≡ least n f above → v ≡ f n → min best v ≡ least (n + 1) f above
unfolding least
least_more n f above best v so_far here = rw (add-one, so_far, here) refl

-- the lesser of two numbers is one of them
pub min-is : (a b : ℕ) → (min a b ≡ a) ⊎ (min a b ≡ b)
min-is a b = grind arith

-- it is `above` or one of the numbers
pub least-reached : (n : ℕ) (f : ℕ → ℕ) (above : ℕ) → (least n f above ≡ above) ⊎ ((k : ℕ) × (k < n) × (least n f above ≡ f k))
unfolding least
least-reached zero f above = inl refl
least-reached (suc n) f above =
    let goal : Type 0 = (min (least n f above) (f n) ≡ above) ⊎ ((k : ℕ) × (k < suc n) × (min (least n f above) (f n) ≡ f k)) in
    elim (min-is (least n f above) (f n)) as (λ _. goal) [
      | inr here ↦ inr (n, omega arith, here)
      | inl before ↦ elim (least-reached n f above) as (λ _. goal) [
        | inl all ↦ inl (omega (arith, before, all))
        | inr found ↦ inr (found.0, (let h = found.1 in omega arith), omega (arith, before, found.2))
      ]
    ]

-- a number that is at most each of them, and is one of them, is the least
pub least-is : (n : ℕ) (f : ℕ → ℕ) (above v k : ℕ) → ((j : ℕ) → j < n → v ≤ f j) → v ≤ above → k < n → v ≡ f k → v ≡ least n f above
least-is n f above v k below cap within is =
    let down = least-below n f above k within in
    elim (least-reached n f above) [
      | inl all ↦ omega (arith, all, down, is, cap)
      | inr found ↦ (let up = below found.0 found.1 in let e = found.2 in omega (arith, up, e, down, is))
    ]

-- equal numbers have an equal least
pub least-same : (n : ℕ) (f g : ℕ → ℕ) (above : ℕ) → ((k : ℕ) → f k ≡ g k) → least n f above ≡ least n g above
unfolding least
least-same zero f g above e = refl
least-same (suc n) f g above e = ap (λ x. min x (f n)) (least-same n f g above e) ∙ ap (min (least n g above)) (e n)

-- what is at most all of them is at most the least
pub least-glb : (n : ℕ) (f : ℕ → ℕ) (above v : ℕ) → ((j : ℕ) → j < n → v ≤ f j) → v ≤ above → v ≤ least n f above
unfolding least
least-glb zero f above v below cap = cap
least-glb (suc n) f above v below cap = let ih = least-glb n f above v (λ j h. below j (omega arith)) cap in let here = below n (omega arith) in omega (arith, ih, here)

-- the least of f 0, .., f n is at most each of them
pub least_of-below : (f : ℕ → ℕ) (n k : ℕ) → k ≤ n → least_of f n ≤ f k
least_of-below f n k within =
    let either : (k < n) ⊎ (k ≡ n) = grind arith in
    elim either [ inl less ↦ least-below n f (f n) k less | inr same ↦ (let cap = least-above n f (f n) in let e = ap f same in omega (arith, cap, e)) ]

-- and is one of them
pub least_of-reached : (f : ℕ → ℕ) (n : ℕ) → (k : ℕ) × (k ≤ n) × (least_of f n ≡ f k)
least_of-reached f n =
    elim (least-reached n f (f n)) as (λ _. (k : ℕ) × (k ≤ n) × (least_of f n ≡ f k)) [
      | inl last ↦ (n, omega arith, last)
      | inr found ↦ (found.0, (let h = found.1 in omega arith), found.2)
    ]

-- a number that is at most each of them, and is one of them, is their least
pub least_of-is : (f : ℕ → ℕ) (n m k : ℕ) → ((j : ℕ) → j ≤ n → m ≤ f j) → k ≤ n → m ≡ f k → m ≡ least_of f n
least_of-is f n m k below h e =
    let there = least_of-reached f n in let low = below there.0 there.1 in let high = least_of-below f n k h in omega (arith, there.2, low, high)

-- where the least of one number more is
more-at : (f : ℕ → ℕ) (n : ℕ) → (k : ℕ) × (k ≤ n + 1) × (min (least_of f n) (f (n + 1)) ≡ f k)
more-at f n =
    let there = least_of-reached f n in
    elim (min-is (least_of f n) (f (n + 1))) as (λ _. (k : ℕ) × (k ≤ n + 1) × (min (least_of f n) (f (n + 1)) ≡ f k)) [
      | inl before ↦ (there.0, (let h = there.1 in omega arith), before ∙ there.2)
      | inr last ↦ (n + 1, omega arith, last)
    ]

-- a loop's step
pub least_of-more : (f : ℕ → ℕ) (n best : ℕ) → best ≡ least_of f n → min best (f (n + 1)) ≡ least_of f (n + 1)
least_of-more f n best e =
    least_of-is f (n + 1) (min best (f (n + 1))) (more-at f n).0
    (λ j within.
    (let either : (j ≤ n) ⊎ (j ≡ n + 1) = grind arith in
    elim either [ inl less ↦ (let low = least_of-below f n j less in omega (arith, low, e)) | inr same ↦ (let here = ap f same in omega (arith, here)) ]))
    (more-at f n).1 (let is = (more-at f n).2 in omega (arith, is, e))
