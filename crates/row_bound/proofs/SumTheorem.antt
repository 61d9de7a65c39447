-- The bounds of all blocks together are at most twice the cost of all samples.
use Rattle.std.proofs.Common.{◌≡◌, ℕ, zero, suc, ◌+◌, ◌-◌, ◌*◌, ◌<◌, ◌≤◌, arith, ap, refl}
use Rattle.row_bound.specs.Windows.{sum_from, half_from, tail, enter, AreBounds}

-- a sum in two parts
sum-split : (f : ℕ → ℕ) (i a c j t : ℕ) → j ≡ i + a → t ≡ a + c → sum_from f i t ≡ sum_from f i a + sum_from f j c
unfolding sum_from
sum-split f i zero c j t e g = let k : j ≡ i = omega (arith, e) in let l : t ≡ c = omega (arith, g) in rw (k, l) (omega arith)
sum-split f i (suc a) c j t e g =
    let k = sum-split f (suc i) a c j (a + c) (omega (arith, e)) refl in
    let l : t ≡ suc (a + c) = omega (arith, g) in
    rw l (omega (arith, k))

plus-zero : (i : ℕ) → i + 0 ≡ i
plus-zero i = omega arith

plus-one : (i : ℕ) → i + 0 + 1 ≡ suc i
plus-one i = omega arith

plus-suc : (i m : ℕ) → i + suc m ≡ suc i + m
plus-suc i m = omega arith

plus-suc-one : (i m : ℕ) → i + suc m + 1 ≡ suc i + m + 1
plus-suc-one i m = omega arith

-- a half-weighed sum and its last two samples are twice the sum
half-and-ends : (f : ℕ → ℕ) (i m : ℕ) → half_from f i (suc (suc m)) + (f (i + m) + f (i + m + 1)) ≡ 2 * sum_from f i (suc (suc m))
unfolding sum_from half_from
half-and-ends f i zero =
    let p = ap f (plus-zero i) in let q = ap f (plus-one i) in omega (arith, p, q)
half-and-ends f i (suc m) =
    let k = half-and-ends f (suc i) m in
    let p = ap f (plus-suc i m) in let q = ap f (plus-suc-one i m) in omega (arith, k, p, q)

-- the same in the words of the windows
half-and-tail : (f : ℕ → ℕ) (i n j : ℕ) → 2 ≤ n → j ≡ i + n → half_from f i n + tail f j ≡ 2 * sum_from f i n
unfolding tail
half-and-tail f i zero j h e = absurd (omega (arith, h))
half-and-tail f i (suc zero) j h e = absurd (omega (arith, h))
half-and-tail f i (suc (suc m)) j h e =
    let k = half-and-ends f i m in
    let p : f (j - 2) ≡ f (i + m) = ap f (omega (arith, e)) in
    let q : f (j - 1) ≡ f (i + m + 1) = ap f (omega (arith, e)) in omega (arith, k, p, q)

enter-is : (n : ℕ) (f : ℕ → ℕ) (b : ℕ) → enter n f (suc (suc b)) ≡ tail f (suc (suc b) * n)
unfolding enter
enter-is n f b = refl

enter-one : (n : ℕ) (f : ℕ → ℕ) → enter n f 1 ≡ 0
unfolding enter
enter-one n f = refl

-- the sum of `count` bounds from block b on, by induction with what enters there
rests : (n : ℕ) (f bound : ℕ → ℕ) (blocks b count t : ℕ) → 2 ≤ n → AreBounds n f blocks bound → 0 < b → b + count ≡ blocks → t ≡ count * n
    → sum_from bound b count ≤ enter n f b + 2 * sum_from f (b * n) t
unfolding sum_from
rests n f bound blocks b zero t h is some e g = omega arith
rests n f bound blocks b (suc zero) t h is some e g =
    let l = is.last b some (omega (arith, e)) in let k : t ≡ n = omega (arith, g) in rw k (omega (arith, l))
rests n f bound blocks zero (suc (suc count)) t h is some e g = absurd (omega (arith, some))
rests n f bound blocks (suc b) (suc (suc count)) t h is some e g =
    let i = is.inner (suc b) some (omega (arith, e)) in
    let r = rests n f bound blocks (suc (suc b)) (suc count) (suc count * n) h is (omega arith) (omega (arith, e)) refl in
    let u = half-and-tail f (suc b * n) n (suc (suc b) * n) h (omega arith) in
    let s = sum-split f (suc b * n) n (suc count * n) (suc (suc b) * n) t (omega arith) (omega (arith, g)) in
    let w = enter-is n f b in
    omega (arith, i, r, u, s, w)

pub sum-below : (n : ℕ) (f bound : ℕ → ℕ) (blocks : ℕ) → 2 ≤ n → AreBounds n f blocks bound → sum_from bound 0 blocks ≤ 2 * sum_from f 0 (blocks * n)
unfolding sum_from
sum-below n f bound zero h is = omega arith
sum-below n f bound (suc blocks) h is =
    let r = rests n f bound (suc blocks) 1 blocks (blocks * n) h is (omega arith) (omega arith) refl in
    let s = sum-split f 0 n (blocks * n) (1 * n) (suc blocks * n) (omega arith) (omega arith) in
    let o = is.first in let w = enter-one n f in
    omega (arith, r, s, o, w)
