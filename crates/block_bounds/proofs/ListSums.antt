-- The error of a list of blocks is the sum of what its samples cost.
use Rattle.std.proofs.Common.{◌≡◌, ℕ, zero, suc, ◌+◌, ◌*◌, ◌≤◌, arith, ap, refl}
use Rattle.std.specs.Prelude.{ℤ, List}
use Rattle.machine_core.specs.Decoder.{Decoder, start, miss}
use Rattle.machine_core.specs.Blocks.{Blocks, state_at}
use Rattle.machine_core.specs.Sums.{cost_at, sum_after, sum_of}
use Rattle.row_bound.specs.Windows.{sum_from, AreBounds}
use Rattle.row_bound.proofs.SumTheorem.{sum-below}

same : (d : Decoder) (list : Blocks) (targets : List ℤ) (i n : ℕ) → sum_from (cost_at d list targets) i n ≡ sum_after d (miss d targets) list (state_at d list start i) i n
unfolding sum_from
same d list targets i zero = refl
same d list targets i (suc n) = ap (λ t. cost_at d list targets i + t) (same d list targets (suc i) n)

pub list-below : (d : Decoder) (list : Blocks) (targets : List ℤ) (bounds : ℕ → ℕ) (blocks : ℕ) → 2 ≤ d.samples → AreBounds d.samples (cost_at d list targets) blocks bounds
    → sum_from bounds 0 blocks ≤ 2 * sum_of d list targets blocks
list-below d list targets bounds blocks h is =
    let b = sum-below d.samples (cost_at d list targets) bounds blocks h is in
    let e = same d list targets 0 (blocks * d.samples) in omega (arith, b, e)
