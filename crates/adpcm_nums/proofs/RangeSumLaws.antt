-- Laws of sums over numbers in a row.
use Rattle.std.proofs.Common.{◌≡◌, ℕ, zero, suc, ◌+◌, ◌-◌, ◌*◌, ◌<◌, ◌≤◌, arith, refl, ap, sym, ◌∙◌, zero-add}
use Rattle.std.proofs.Math.Nat.{suc-add}
use Rattle.adpcm_nums.specs.RangeSum.{sum_range}

-- the sum of n numbers and then of m more
pub sum_range-add : (f : ℕ → ℕ) (p n m next : ℕ) → next ≡ p + n → sum_range f p (n + m) ≡ sum_range f p n + sum_range f next m
sum_range-add f p zero m next e = let same : next ≡ p = omega arith in rw (zero-add, zero-add, same) refl
sum_range-add f p (suc n) m next e = let ih = sum_range-add f (suc p) n m next (omega arith) in rw suc-add (omega (arith, ih))

-- what is left to sum up to an end is the next number and what is left then
pub sum_range-next : (f : ℕ → ℕ) (p next end : ℕ) → next ≡ p + 1 → next ≤ end → sum_range f p (end - p) ≡ f p + sum_range f next (end - next)
sum_range-next f p next end e below =
    let count : end - p ≡ suc (end - next) = omega arith in
    let split : sum_range f p (end - p) ≡ f p + sum_range f (suc p) (end - next) = ap (sum_range f p) count in
    let here : sum_range f (suc p) (end - next) ≡ sum_range f next (end - next) = ap (λ z. sum_range f z (end - next)) (omega arith) in
    omega arith

-- a loop's step: one number is added, and with what is left the sum stays the whole
pub sum_range-more : (f : ℕ → ℕ) (p end sum here whole : ℕ) → p < end → here ≡ f p
    → sum + sum_range f p (end - p) ≡ whole → sum + here + sum_range f (p + 1) (end - (p + 1)) ≡ whole
sum_range-more f p end sum here whole below is so_far = let split = sum_range-next f p (p + 1) end refl (omega arith) in omega arith

at-zero : (p : ℕ) → p ≡ p + 0
at-zero p = omega arith

-- equal numbers have an equal sum
pub sum_range-same : (f g : ℕ → ℕ) (p q n : ℕ) → ((k : ℕ) → k < n → f (p + k) ≡ g (q + k)) → sum_range f p n ≡ sum_range g q n
sum_range-same f g p q zero e = refl
sum_range-same f g p q (suc n) e =
    let later = sum_range-same f g (suc p) (suc q) n
    (λ k below.
    (let one : suc p + k ≡ p + suc k = omega arith in
    let two : q + suc k ≡ suc q + k = omega arith in
    ap f one ∙ e (suc k) (omega arith) ∙ ap g two)) in
    let first : f p ≡ g q = ap f (at-zero p) ∙ e 0 (omega arith) ∙ ap g (sym (at-zero q)) in
    omega (arith, later, first)

add-moves : (p k : ℕ) → suc p + k ≡ p + suc k
add-moves p k = omega arith

-- numbers that are at most `most` sum to at most so many times that
pub sum_range-small : (f : ℕ → ℕ) (most p n : ℕ) → ((k : ℕ) → k < n → f (p + k) ≤ most) → sum_range f p n ≤ n * most
sum_range-small f most p zero small = omega arith
sum_range-small f most p (suc n) small =
    let later = sum_range-small f most (suc p) n (λ k below. (let same = ap f (add-moves p k) in let there = small (suc k) (omega arith) in omega (arith, same, there))) in
    let same = ap f (at-zero p) in let there = small 0 (omega arith) in let first : f p ≤ most = omega (arith, same, there) in
    omega (arith, later, first)

-- numbers that are each at most others sum to at most their sum
pub sum_range-below : (f g : ℕ → ℕ) (p n : ℕ) → ((k : ℕ) → k < n → f (p + k) ≤ g (p + k)) → sum_range f p n ≤ sum_range g p n
sum_range-below f g p zero small = omega arith
sum_range-below f g p (suc n) small =
    let later = sum_range-below f g (suc p) n
    (λ k below. (let one = ap f (add-moves p k) in let two = ap g (add-moves p k) in let there = small (suc k) (omega arith) in omega (arith, one, two, there))) in
    let one = ap f (at-zero p) in let two = ap g (at-zero p) in let there = small 0 (omega arith) in let first : f p ≤ g p = omega (arith, one, two, there) in
    omega (arith, later, first)
