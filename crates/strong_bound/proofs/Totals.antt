-- The bounds of all blocks together.
use Rattle.std.proofs.Common.{◌≡◌, ℕ, zero, suc, ◌+◌, ◌-◌, ◌*◌, ◌<◌, ◌≤◌, arith, refl, ap, sym, subst, Bool, true, false, List}
use Rattle.std.proofs.lemmas.Bool.Decides.{nat_tests}
use Rattle.std.specs.Prelude.{ℤ}
use Rattle.adpcm_nums.specs.declared.limits.TheConstants.{MOST_SAMPLES}
use Rattle.machine_core.specs.Decoder.{Decoder}
use Rattle.machine_core.specs.Blocks.{Blocks}
use Rattle.machine_core.specs.Sums.{cost_at, sum_of}
use Rattle.row_bound.specs.Windows.{sum_from, half_from, enter, AreBounds}
use Rattle.block_bounds.proofs.ListSums.{list-below}
use Rattle.strong_bound.specs.Counted.{own_count, is_left, counted}

sum-last : (f : ℕ → ℕ) (i n j : ℕ) → j ≡ i + n → sum_from f i (suc n) ≡ sum_from f i n + f j
unfolding sum_from
sum-last f i zero j e = let k : f j ≡ f i = ap f (omega (arith, e)) in omega (arith, k)
sum-last f i (suc n) j e = let k = sum-last f (suc i) n j (omega (arith, e)) in omega (arith, k)

-- nothing is summed at first
pub sum-none : (f : ℕ → ℕ) → 0 ≤ sum_from f 0 0
sum-none f = omega arith

-- one more bound
pub sum-more : (f : ℕ → ℕ) (n next sum bound : ℕ) → next ≡ n + 1 → sum ≤ sum_from f 0 n → bound ≤ f n → sum + bound ≤ sum_from f 0 next
sum-more f n next sum bound e h k =
    let here : next ≡ suc n = omega (arith, e) in
    let last = sum-last f 0 n n (omega arith) in
    subst (λ (z : ℕ). sum + bound ≤ sum_from f 0 z) (sym here) (omega (arith, last, h, k))

left-true : (b blocks : ℕ) → 0 < b → suc b < blocks → is_left blocks b ≡ true
left-true zero blocks some h = absurd (omega (arith, some))
left-true (suc b) blocks some h = grind (arith, nat_tests)

left-false : (b blocks : ℕ) → suc b ≡ blocks → is_left blocks b ≡ false
left-false zero blocks h = refl
left-false (suc b) blocks h = grind (arith, nat_tests)

inner-count : (n : ℕ) (f : ℕ → ℕ) (blocks b : ℕ) → is_left blocks b ≡ true → counted n f blocks b ≡ enter n f b + half_from f (b * n) n
unfolding counted own_count
inner-count n f blocks b e = ap (λ (z : Bool). enter n f b + own_count z f (b * n) n) e

last-count : (n : ℕ) (f : ℕ → ℕ) (blocks b : ℕ) → is_left blocks b ≡ false → counted n f blocks b ≡ enter n f b + 2 * sum_from f (b * n) n
unfolding counted own_count
last-count n f blocks b e = ap (λ (z : Bool). enter n f b + own_count z f (b * n) n) e

none-enters : (n : ℕ) (f : ℕ → ℕ) → enter n f 0 ≡ 0
unfolding enter
none-enters n f = refl

-- what the windows count are such bounds themselves
are-bounds : (n : ℕ) (f : ℕ → ℕ) (blocks : ℕ) → AreBounds n f blocks (counted n f blocks)
are-bounds n f blocks = record {
  first = (let e = last-count n f blocks 0 refl in let g = none-enters n f in let z : sum_from f (0 * n) n ≡ sum_from f 0 n = ap (λ (i : ℕ). sum_from f i n) (omega arith) in omega (arith, e, g, z));
  inner = λ b some h. (let e = inner-count n f blocks b (left-true b blocks some h) in omega (arith, e));
  last = λ b some h. (let e = last-count n f blocks b (left-false b blocks h) in omega (arith, e));
}

-- half of what is under them all is under the list's error
pub half-below : (d : Decoder) (list : Blocks) (targets : List ℤ) (blocks at sum half : ℕ) → 2 ≤ d.samples → at ≡ blocks → sum ≤ sum_from (counted d.samples (cost_at d list targets) blocks) 0 at
    → 2 * half ≤ sum + 1 → half ≤ sum_of d list targets blocks
half-below d list targets blocks at sum half some e h k =
    let all = list-below d list targets (counted d.samples (cost_at d list targets) blocks) blocks some (are-bounds d.samples (cost_at d list targets) blocks) in
    let same : sum_from (counted d.samples (cost_at d list targets) blocks) 0 at ≡ sum_from (counted d.samples (cost_at d list targets) blocks) 0 blocks = ap (sum_from (counted d.samples (cost_at d list targets) blocks) 0) e in
    omega (arith, all, same, h, k)

-- there are few blocks
pub few-blocks : (count blocks n : ℕ) → 2 ≤ n → count ≡ blocks * n → count ≤ MOST_SAMPLES → blocks ≤ MOST_SAMPLES
few-blocks count blocks n h e k =
    let p : n ≡ n - 1 + 1 = omega (arith, h) in let q : blocks * n ≡ blocks * (n - 1 + 1) = ap (λ z. blocks * z) p in let r : blocks * (n - 1 + 1) ≡ blocks * (n - 1) + blocks = omega arith in omega (arith, q, r, e, k)
