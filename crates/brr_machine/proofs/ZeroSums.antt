-- The error of a block of filter 0: place by place, and against every other block.
use Rattle.std.proofs.Common.{◌≡◌, ℕ, zero, suc, ◌+◌, ◌*◌, ◌/◌, ◌%◌, ◌<◌, ◌≤◌, arith, refl, ap, sym, ◌∙◌, subst, List, get_or, length}
use Rattle.std.specs.Prelude.{ℤ, pos}
use Rattle.std.proofs.lemmas.Bool.{eqb-true}
use Rattle.std.proofs.lemmas.List.{get_or-map}
use Rattle.adpcm_nums.specs.Least.{IsFirstLeast}
use Rattle.adpcm_nums.proofs.LeastLaws.{first_least-is, is_first_least_at}
use Rattle.machine_core.specs.Decoder.{Decoder}
use Rattle.machine_core.specs.Blocks.{Blocks, IsLegal, symbol_at, first_only}
use Rattle.machine_core.specs.Sums.{cost_at, sum_from, sum_of}
use Rattle.brr_machine.specs.Brr.{brr}
use Rattle.brr_machine.specs.Zero.{zero_head, code_cost, nearest_code, nearest_codes, one_block, shift_sum, best_shift, zero_sum}
use Rattle.brr_machine.proofs.ZeroCosts.{cost_at-zero}

-- a sum is no larger where no cost is
sums-below : (d : Decoder) (one two : Blocks) (targets : List ℤ) (i count : ℕ)
    → ((k : ℕ) → k < i + count → cost_at d one targets k ≤ cost_at d two targets k)
    → sum_from d one targets i count ≤ sum_from d two targets i count
sums-below d one two targets i zero h = omega arith
sums-below d one two targets i (suc n) h =
    omega (arith, h i (omega arith), sums-below d one two targets (suc i) n (λ k l. h k (omega arith)))

-- a sum with its last cost
sum-last : (d : Decoder) (list : Blocks) (targets : List ℤ) (i count : ℕ)
    → sum_from d list targets i (suc count) ≡ sum_from d list targets i count + cost_at d list targets (i + count)
sum-last d list targets i zero =
    let e : i ≡ i + 0 = omega arith in let last = ap (cost_at d list targets) e in omega (arith, last)
sum-last d list targets i (suc n) =
    let e : suc i + n ≡ i + suc n = omega arith in
    let last = ap (cost_at d list targets) e in
    omega (arith, last, sum-last d list targets (suc i) n)

-- what the nearest code at a place costs
nearest-cost : (shift : ℕ) (targets : List ℤ) (k : ℕ) → length targets ≡ 16 → k < 16
    → cost_at brr (one_block (zero_head shift) (nearest_codes shift targets)) targets k
    ≡ code_cost shift (get_or targets k (pos 0)) (nearest_code shift (get_or targets k (pos 0)))
nearest-cost shift targets k len h =
    let within : k < length targets = omega (arith, len) in
    cost_at-zero (one_block (zero_head shift) (nearest_codes shift targets)) targets shift k refl h
    ∙ ap (code_cost shift (get_or targets k (pos 0))) (get_or-map (nearest_code shift) targets k (pos 0) 0 within)

-- one more place of a shift's error
pub sum_more : (shift : ℕ) (targets : List ℤ) (i sum cost : ℕ) → length targets ≡ 16 → i < 16
    → sum ≡ sum_from brr (one_block (zero_head shift) (nearest_codes shift targets)) targets 0 i
    → cost ≡ code_cost shift (get_or targets i (pos 0)) (nearest_code shift (get_or targets i (pos 0)))
    → sum + cost ≡ sum_from brr (one_block (zero_head shift) (nearest_codes shift targets)) targets 0 (i + 1)
sum_more shift targets i sum cost len h front is =
    let list : Blocks = one_block (zero_head shift) (nearest_codes shift targets) in
    let next : suc i ≡ i + 1 = omega arith in
    let here : 0 + i ≡ i = omega arith in
    let last = ap (cost_at brr list targets) here in
    let whole = sum-last brr list targets 0 i in
    let near = nearest-cost shift targets i len h in
    let step : sum + cost ≡ sum_from brr list targets 0 (suc i) = omega (arith, front, is, last, whole, near) in
    step ∙ ap (sum_from brr list targets 0) next

-- the whole error of a shift
pub sum_all : (shift : ℕ) (targets : List ℤ) (i sum : ℕ) → i ≡ 16
    → sum ≡ sum_from brr (one_block (zero_head shift) (nearest_codes shift targets)) targets 0 i
    → sum ≡ shift_sum targets shift
unfolding shift_sum
sum_all shift targets i sum all front = front ∙ ap (sum_from brr (one_block (zero_head shift) (nearest_codes shift targets)) targets 0) all

-- a shift's nearest codes cost no more than other codes
shift-least : (list : Blocks) (targets : List ℤ) (shift : ℕ) → length targets ≡ 16 → get_or list.heads 0 0 ≡ zero_head shift
    → ((k : ℕ) → k < 16 → symbol_at list k < 16) → shift_sum targets shift ≤ sum_of brr list targets 1
unfolding shift_sum
shift-least list targets shift len head symbols =
    sums-below brr (one_block (zero_head shift) (nearest_codes shift targets)) list targets 0 16
    (λ k h. let within : k < 16 = omega (arith, h) in
    let least = (first_least-is (code_cost shift (get_or targets k (pos 0))) 15).least (symbol_at list k) (symbols k within) in
    omega (arith, nearest-cost shift targets k len within, cost_at-zero list targets shift k head within, least))

best-least : (targets : List ℤ) (shift : ℕ) → shift < 16 → zero_sum targets ≤ shift_sum targets shift
unfolding best_shift
best-least targets shift small = (first_least-is (shift_sum targets) 15).least shift small

four-times : (head : ℕ) → head % 4 ≡ 0 → head ≡ 4 * (head / 4)
four-times head h = omega arith

-- no block of filter 0 costs less than the best one
pub zero-least : (targets : List ℤ) (list : Blocks) → length targets ≡ 16 → IsLegal brr 1 first_only list → zero_sum targets ≤ sum_of brr list targets 1
zero-least targets list len legal =
    let head : ℕ = get_or list.heads 0 0 in
    let fits : head < 64 = legal.in_range.heads_fit 0 (omega arith) in
    let filter : head % 4 ≡ 0 = eqb-true _ _ (legal.obeys.allowed 0 (omega arith)) in
    let shift : head / 4 < 16 = omega (arith, fits) in
    omega (arith, best-least targets (head / 4) shift, shift-least list targets (head / 4) len (four-times head filter) (λ k h. legal.in_range.symbols_fit k h))

pub sum_below : (targets : List ℤ) (list : Blocks) (sum : ℕ) → length targets ≡ 16 → IsLegal brr 1 first_only list → sum ≡ zero_sum targets → sum ≤ sum_of brr list targets 1
sum_below targets list sum len legal is = let P : ℕ → Type 0 = λ n. n ≤ sum_of brr list targets 1 in subst P (sym is) (zero-least targets list len legal)

-- the shift that a loop over all shifts has found
pub found_best : (targets : List ℤ) (count shift : ℕ) → IsFirstLeast (shift_sum targets) count shift → count ≡ 16 → shift ≡ best_shift targets
unfolding best_shift
found_best targets count shift found all = is_first_least_at (shift_sum targets) count 16 shift found all
