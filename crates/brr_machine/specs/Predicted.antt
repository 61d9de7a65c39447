-- What a code costs on top of a prediction.
use Rattle.std.specs.Prelude.{ℕ, ◌*◌, ◌^◌, ◌≤◌, ℤ, pos, negsuc, ◌+ℤ◌, ◌-ℤ◌, ◌≤ℤ◌}
use Rattle.adpcm_nums.specs.Nums.{clamp16_of, wrap15_of}
use Rattle.adpcm_nums.specs.Least.{first_least}
use Rattle.linear_machine.specs.Nearest.{code_cost}
use Rattle.brr_machine.specs.Brr.{sample_of}

-- the output
unfoldable pub predicted_output : ℕ → ℤ → ℕ → ℤ
predicted_output shift prediction code = wrap15_of (clamp16_of (sample_of shift code +ℤ prediction))

-- how far twice the output is from a target, squared
unfoldable pub predicted_cost : ℕ → ℤ → ℤ → ℕ → ℕ
predicted_cost shift prediction target code = code_cost 2 (predicted_output shift prediction) target code

-- the first code of least cost
unfoldable pub nearest_predicted : ℕ → ℤ → ℤ → ℕ
nearest_predicted shift prediction target = first_least (predicted_cost shift prediction target) 16

-- with this shift no code's output is clamped or wraps on top of the prediction
pub record IsPlain (shift : ℕ) (prediction : ℤ) : Type 0 where
  pub some : 1 ≤ shift
  pub few : shift ≤ 11
  pub low : negsuc 16383 ≤ℤ (prediction -ℤ pos (4 * 2 ^ shift))
  pub high : (prediction +ℤ pos (4 * 2 ^ shift)) ≤ℤ pos 16383
