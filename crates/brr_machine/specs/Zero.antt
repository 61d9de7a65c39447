-- The best block of filter 0 for sixteen targets: the first shift of least sum, at each place the first code of least cost.
use Rattle.std.specs.Prelude.{ℕ, ◌*◌, ℤ, List, [], ◌∷◌, map}
use Rattle.adpcm_nums.specs.Least.{first_least}
use Rattle.machine_core.specs.Decoder.{start, cost_of}
use Rattle.machine_core.specs.Blocks.{Blocks}
use Rattle.machine_core.specs.Sums.{sum_of}
use Rattle.brr_machine.specs.Brr.{brr, brr_step}

-- the head of filter 0 with this shift
abbrev pub zero_head : ℕ → ℕ
zero_head shift = 4 * shift

-- under filter 0 the history does not count
abbrev pub code_cost : ℕ → ℤ → ℕ → ℕ
code_cost shift target code = cost_of brr (brr_step (zero_head shift) 0 code start) target

abbrev pub nearest_code : ℕ → ℤ → ℕ
nearest_code shift target = first_least (code_cost shift target) 16

abbrev pub nearest_codes : ℕ → List ℤ → List ℕ
nearest_codes shift targets = map (nearest_code shift) targets

abbrev pub one_block : ℕ → List ℕ → Blocks
one_block head codes = record { heads = head ∷ []; symbols = codes }

-- the error of a shift's nearest codes
unfoldable pub shift_sum : List ℤ → ℕ → ℕ
shift_sum targets shift = sum_of brr (one_block (zero_head shift) (nearest_codes shift targets)) targets 1

unfoldable pub best_shift : List ℤ → ℕ
best_shift targets = first_least (shift_sum targets) 16

abbrev pub zero_block : List ℤ → Blocks
zero_block targets = one_block (zero_head (best_shift targets)) (nearest_codes (best_shift targets) targets)

-- its error
abbrev pub zero_sum : List ℤ → ℕ
zero_sum targets = shift_sum targets (best_shift targets)
