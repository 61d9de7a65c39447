-- The code whose output comes nearest to a target, where it is known what each code gives.
use Rattle.std.specs.Prelude.{ℕ, ℤ, pos, ◌-ℤ◌, ◌*ℤ◌}
use Rattle.adpcm_nums.specs.Nums.{square_of}
use Rattle.adpcm_nums.specs.Least.{first_least}

-- how far a code's output is from a target, squared; an output counts `scale` steps
abbrev pub code_cost : ℕ → (ℕ → ℤ) → ℤ → ℕ → ℕ
code_cost scale output target code = square_of (pos scale *ℤ output code -ℤ target)

-- the first of sixteen codes of least cost
abbrev pub nearest_code : ℕ → (ℕ → ℤ) → ℤ → ℕ
nearest_code scale output target = first_least (code_cost scale output target) 16
