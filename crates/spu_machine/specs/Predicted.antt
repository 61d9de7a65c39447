-- What a code costs on top of a prediction.
use Rattle.std.specs.Prelude.{ℕ, ℤ, ◌+ℤ◌}
use Rattle.adpcm_nums.specs.Nums.{clamp16_of}
use Rattle.adpcm_nums.specs.Least.{first_least}
use Rattle.linear_machine.specs.Nearest.{code_cost}
use Rattle.spu_machine.specs.Spu.{sample_of}

-- the output
unfoldable pub predicted_output : ℕ → ℤ → ℕ → ℤ
predicted_output shift prediction code = clamp16_of (sample_of shift code +ℤ prediction)

-- how far the output is from a target, squared
unfoldable pub predicted_cost : ℕ → ℤ → ℤ → ℕ → ℕ
predicted_cost shift prediction target code = code_cost 1 (predicted_output shift prediction) target code

-- the first code of least cost
unfoldable pub nearest_predicted : ℕ → ℤ → ℤ → ℕ
nearest_predicted shift prediction target = first_least (predicted_cost shift prediction target) 16
