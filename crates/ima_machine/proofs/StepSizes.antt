-- The step sizes: the code's table is the definition's, all of them lie in 7..32767, and they rise.
use Rattle.std.proofs.Common.{◌≡◌, ℕ, zero, suc, ◌+◌, ◌≤◌, ◌<◌, List, [], ◌∷◌, length, get_or, arith, refl, true, ap}
use Rattle.std.specs.Prelude.{Bool, nat_le, nat_lt, ◌&&◌}
use Rattle.std.proofs.lemmas.Bool.{and_parts, leb-true, ltb-true}
use Rattle.ima_machine.specs.declared.steps.TheConstants.{STEP_SIZES}
use Rattle.ima_machine.specs.Steps.{step_sizes, step_size}

all-fit : List ℕ → Bool
all-fit [] = true
all-fit (x ∷ xs) = (nat_le 7 x && nat_le x 32767) && all-fit xs

fit-low : (xs : List ℕ) (i : ℕ) → all-fit xs ≡ true → i < length xs → 7 ≤ get_or xs i 0
unfolding all-fit
fit-low [] i h within = absurd (omega arith)
fit-low (x ∷ xs) zero h within = leb-true _ _ (and_parts _ _ (and_parts _ _ h).0).0
fit-low (x ∷ xs) (suc i) h within = fit-low xs i (and_parts _ _ h).1 (omega arith)

fit-high : (xs : List ℕ) (i : ℕ) → all-fit xs ≡ true → get_or xs i 0 ≤ 32767
unfolding all-fit
fit-high [] i h = omega arith
fit-high (x ∷ xs) zero h = leb-true _ _ (and_parts _ _ (and_parts _ _ h).0).1
fit-high (x ∷ xs) (suc i) h = fit-high xs i (and_parts _ _ h).1

all-rise : List ℕ → Bool
all-rise [] = true
all-rise (x ∷ []) = true
all-rise (x ∷ y ∷ xs) = nat_lt x y && all-rise (y ∷ xs)

rise-at : (xs : List ℕ) (i : ℕ) → all-rise xs ≡ true → suc i < length xs → get_or xs i 0 < get_or xs (suc i) 0
unfolding all-rise
rise-at [] i h within = absurd (omega arith)
rise-at (x ∷ []) i h within = absurd (omega arith)
rise-at (x ∷ y ∷ xs) zero h within = ltb-true _ _ (and_parts _ _ h).0
rise-at (x ∷ y ∷ xs) (suc i) h within = rise-at (y ∷ xs) i (and_parts _ _ h).1 (omega arith)

sizes-fit : all-fit step_sizes ≡ true
unfolding all-fit step_sizes
sizes-fit = refl

sizes-rise : all-rise step_sizes ≡ true
unfolding all-rise step_sizes
sizes-rise = refl

size-count : length step_sizes ≡ 89
unfolding step_sizes
size-count = refl

pub step_large : (index : ℕ) → index < 89 → 7 ≤ step_size index
unfolding step_size
step_large index fits = fit-low step_sizes index sizes-fit (omega (arith, size-count))

pub step_small : (index : ℕ) → step_size index ≤ 32767
unfolding step_size
step_small index = fit-high step_sizes index sizes-fit

pub steps_rise : (index : ℕ) → index < 88 → step_size index < step_size (suc index)
unfolding step_size
steps_rise index fits = rise-at step_sizes index sizes-rise (omega (arith, size-count))

table-is : STEP_SIZES ≡ step_sizes
unfolding step_sizes
table-is = refl

pub table_at : (index : ℕ) → get_or STEP_SIZES index 0 ≡ step_size index
unfolding step_size
table_at index = ap (λ xs. get_or xs index 0) table-is
