-- Samples that lie one behind the other.
use Rattle.std.proofs.Common.{◌≡◌, ℕ, ◌+◌, ◌*◌, ◌<◌, ◌≤◌, List, [], ◌∷◌, ◌++◌, length, get_or, map, sum, take, sym, ap, ◌∙◌, arith}
use Rattle.std.specs.List.{range_with_len}
use Rattle.std.proofs.lemmas.List.Sums.{sum_by_more, sum_by_more_le}
use Rattle.std.proofs.lemmas.List.FromFn.{map-range_with_len_more}

-- one sample more: its blocks fit
pub blocks_fit : (first i : ℕ) (blocks : List ℕ) → i < length blocks → first + 9 * sum blocks ≤ 65536 → first + 9 * sum (take i blocks) + 9 * get_or blocks i 0 ≤ 65536
blocks_fit first i blocks l h = omega (arith, sum_by_more_le (λ (n : ℕ). n) blocks i 0 l)

-- the next one lies behind them
pub next_address : (first i : ℕ) (blocks : List ℕ) → i < length blocks → first + 9 * sum (take i blocks) + 9 * get_or blocks i 0 ≡ first + 9 * sum (take (i + 1) blocks)
next_address first i blocks l = omega (arith, sum_by_more (λ (n : ℕ). n) blocks i 0 l)

-- and its address is put behind the others
pub starts_more : (first i at : ℕ) (blocks done more : List ℕ) → done ≡ map (λ k. first + 9 * sum (take k blocks)) (range_with_len 0 i)
    → at ≡ first + 9 * sum (take i blocks) → more ≡ done ++ at ∷ [] → more ≡ map (λ k. first + 9 * sum (take k blocks)) (range_with_len 0 (i + 1))
starts_more first i at blocks done more so_far here pushed =
    let start : ℕ → ℕ = λ k. first + 9 * sum (take k blocks) in
    pushed ∙ (ap (λ (xs : List ℕ). xs ++ at ∷ []) so_far ∙ (ap (λ (n : ℕ). map start (range_with_len 0 i) ++ n ∷ []) here ∙ sym (map-range_with_len_more start 0 i i (omega arith))))
