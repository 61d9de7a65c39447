-- Floors under the error of the rest of a block: a least sum over all lists of codes, in which the outputs do not count.
use Rattle.std.specs.Prelude.{ℕ, zero, suc, ◌+◌, ◌-◌, ◌/◌, ◌%◌, ◌==◌, nat_lt, min, if◌then◌else◌, ℤ, pos, negsuc, ◌-ℤ◌, List, get_or}
use Rattle.adpcm_nums.specs.Nums.{square_of}
use Rattle.adpcm_nums.specs.LeastValue.{least}
use Rattle.machine_core.specs.Floors.{top}
use Rattle.ima_machine.specs.Steps.{difference_of, next_index}

abbrev pub target_at : List ℤ → ℕ → ℤ
target_at targets p = get_or targets p (pos 0)

-- half a number, rounded up
abbrev pub half_up : ℕ → ℕ
half_up n = (n + 1) / 2

-- the output to which a code's outputs are clamped
abbrev pub end_of : ℕ → ℤ
end_of code = if nat_lt code 8 then pos 32767 else negsuc 32767

-- two places in a row whose second has this index and code: without clamping their errors differ by a known number, of which
-- at least half the square has to be paid; else the second output is the end
unfoldable pub pair_floor : ℤ → ℤ → ℕ → ℕ → ℕ
pair_floor before here index code = min (half_up (square_of (difference_of index code -ℤ (here -ℤ before)))) (square_of (end_of code -ℤ here))

-- places are paired from the first on: what the pair that ends at a place counts, or 0 where none ends
unfoldable pub owed : List ℤ → ℕ → ℕ → ℕ → ℕ
owed targets p index code = if p % 2 == 1 then pair_floor (target_at targets (p - 1)) (target_at targets p) index code else 0

-- the sum over n places from place p on, of whose first the code uses this index
abbrev pub path_sum : List ℤ → (ℕ → ℕ) → ℕ → ℕ → ℕ → ℕ
path_sum targets code zero p index = 0
path_sum targets code (suc n) p index = owed targets p index (code p) + path_sum targets code n (p + 1) (next_index index (code p))

-- the same where the pair that ends at place p began before, and does not count
abbrev pub open_sum : List ℤ → (ℕ → ℕ) → ℕ → ℕ → ℕ → ℕ
open_sum targets code zero p index = 0
open_sum targets code (suc n) p index = path_sum targets code n (p + 1) (next_index index (code p))

-- the sum to a block's end; the first place has no code, and its head is the index of the next one
abbrev pub floor_sum : ℕ → ℕ → ℕ → ℕ → List ℤ → (ℕ → ℕ) → ℕ
floor_sum samples head p index targets code = if p == 0 then path_sum targets code (samples - 1) 1 head else open_sum targets code (samples - p) p index

-- the least of the sums over all codes
unfoldable pub chain : List ℤ → ℕ → ℕ → ℕ → ℕ
chain targets zero p index = 0
chain targets (suc n) p index = least 16 (λ code. owed targets p index code + chain targets n (p + 1) (next_index index code)) top

-- the least of the open sums
unfoldable pub open_chain : List ℤ → ℕ → ℕ → ℕ → ℕ
open_chain targets zero p index = 0
open_chain targets (suc n) p index = least 16 (λ code. chain targets n (p + 1) (next_index index code)) top

-- the floor from place p on
unfoldable pub ima_floor : ℕ → ℕ → ℕ → ℕ → List ℤ → ℕ
ima_floor samples head p index targets = if p == 0 then chain targets (samples - 1) 1 head else open_chain targets (samples - p) p index
