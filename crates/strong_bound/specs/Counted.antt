-- What the window of a block counts, and the bounds under it.
use Rattle.std.specs.Prelude.{◌≡◌, ℕ, zero, suc, ◌+◌, ◌-◌, ◌*◌, ◌≤◌, ◌<◌, ℤ, pos, ◌*ℤ◌, ◌-ℤ◌, Bool, true, false, nat_lt, List, drop, length, get_or}
use Rattle.adpcm_nums.specs.Nums.{square_of}
use Rattle.row_bound.specs.Windows.{sum_from, half_from, enter}
use Rattle.window_floor.specs.Windows.{Windows}
use Rattle.block_bounds.specs.Outputs.{Outputs}

-- what `count` samples from sample i on count: twice each, but the last two once where the next block counts them again
unfoldable pub own_count : Bool → (ℕ → ℕ) → ℕ → ℕ → ℕ
own_count true f i count = half_from f i count
own_count false f i count = 2 * sum_from f i count

-- whether the block after block b counts its last two samples again: not those of the first block
abbrev pub is_left : ℕ → ℕ → Bool
is_left blocks zero = false
is_left blocks (suc b) = nat_lt (suc (suc b)) blocks

-- how often the two samples before block b are counted in its window: those of the first block are not
abbrev pub enters : ℕ → ℕ
enters zero = 0
enters (suc zero) = 0
enters (suc (suc b)) = 1

-- what the window of block b counts
unfoldable pub counted : ℕ → (ℕ → ℕ) → ℕ → ℕ → ℕ
counted n f blocks b = enter n f b + own_count (is_left blocks b) f (b * n) n

-- a bound is at most what any outputs of a block under a head count against its targets, which begin with those of the two places before
unfoldable pub IsUnder : Windows → Bool → ℕ → List ℤ → ℕ → Type 0
IsUnder b leaving entering targets bound = (r o : ℤ) (c : ℕ) → Outputs b leaving (drop 2 targets) (get_or targets 0 (pos 0)) (get_or targets 1 (pos 0)) r o c
    → bound ≤ entering * square_of (b.row.scale *ℤ r -ℤ get_or targets 0 (pos 0)) + entering * square_of (b.row.scale *ℤ o -ℤ get_or targets 1 (pos 0)) + c

-- the targets of block b of n samples, behind those of the two samples before it, of which the first block has none
pub record AreTargets (n : ℕ) (targets : List ℤ) (b : ℕ) (block : List ℤ) : Type 0 where
  pub count : length block ≡ n + 2
  pub older : 0 < b → get_or block 0 (pos 0) ≡ get_or targets (b * n - 2) (pos 0)
  pub last : 0 < b → get_or block 1 (pos 0) ≡ get_or targets (b * n - 1) (pos 0)
  pub own : (j : ℕ) → j < n → get_or block (2 + j) (pos 0) ≡ get_or targets (b * n + j) (pos 0)
