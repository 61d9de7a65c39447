use Rattle.std.proofs.Common.{◌≡◌, ◌+◌, ◌<◌, ℕ, length, get_or}
use Rattle.std.specs.Prelude.{pos}
use Rattle.adpcm_nums.specs.Sample.{AreSamples}
use Rattle.strong_bound.proofs.window.first_targets.Given as goal

abbrev pub invariant-loop-place : goal.invariant-loop-place
invariant-loop-place l = record {
  len : length l.list ≡ 30;
  range : AreSamples l.list;
  own : (j : ℕ) → j < l.place → get_or l.list (2 + j) (pos 0) ≡ get_or l.targets j (pos 0);
}
