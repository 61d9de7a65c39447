use Rattle.std.proofs.Common.{◌≡◌, ◌<◌, ℕ, length, get_or}
use Rattle.spu_machine.specs.Spelling.{code_in}
use Rattle.spu_machine.proofs.block.read_codes.Given as goal

abbrev pub invariant-loop-place : goal.invariant-loop-place
invariant-loop-place l = record {
  len : length l.codes ≡ 28;
  each : (k : ℕ) → k < l.place → get_or l.codes k 0 ≡ code_in l.bytes 0 k;
}
