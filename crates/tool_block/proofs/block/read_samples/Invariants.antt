use Rattle.std.proofs.Common.{◌≡◌, ℕ, ◌+◌, ◌*◌, ◌<◌, length, get_or, pos}
use Rattle.std.specs.Int.{w16, cast_signed}
use Rattle.adpcm_nums.specs.Sample.{AreSamples}
use Rattle.tool_block.proofs.block.read_samples.Given as goal

abbrev pub invariant-loop-i : goal.invariant-loop-i
invariant-loop-i l = record {
  len : length l.samples ≡ 16;
  each : (k : ℕ) → k < l.i → get_or l.samples k (pos 0) ≡ cast_signed w16 (get_or l.bytes (2 * k) 0 + 256 * get_or l.bytes (2 * k + 1) 0);
  range : AreSamples l.samples;
}
