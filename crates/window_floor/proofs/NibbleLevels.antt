-- Samples that are one step for each unit of a code's value are the levels of a quantizer.
use Rattle.std.proofs.Common.{◌≡◌, ℕ, ◌<◌, ap, ◌∙◌}
use Rattle.std.specs.Prelude.{ℤ, pos, negsuc, ◌*ℤ◌, List, get_or}
use Rattle.adpcm_nums.specs.Nibbles.{nibble}
use Rattle.adpcm_nums.proofs.NibbleValues.{nibble-low, nibble-high, code-of}
use Rattle.window_floor.specs.Quantizer.{AreLevels}

-- each value of a code has its level
pub levels-by : (step : ℤ) (samples : List ℤ) → ((i : ℕ) → i < 16 → get_or samples i (pos 0) ≡ step *ℤ nibble i) → AreLevels step (negsuc 7) (pos 7) samples
levels-by step samples is = record {
  are = λ i h. (nibble i, nibble-low i h, nibble-high i h, is i h);
  all = λ n h k. let code = code-of n h k in (code.0, code.1, is code.0 code.1 ∙ ap (λ z. step *ℤ z) code.2);
}
