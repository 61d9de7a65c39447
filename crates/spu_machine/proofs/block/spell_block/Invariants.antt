use Rattle.std.proofs.Common.{◌≡◌, ◌+◌, ◌*◌, ◌<◌, ℕ, length, get_or}
use Rattle.spu_machine.proofs.block.spell_block.Given as goal

abbrev pub invariant-loop-i : goal.invariant-loop-i
invariant-loop-i l = record {
  len : length l.bytes ≡ 16;
  head : get_or l.bytes 0 0 ≡ l.block.head;
  flags : get_or l.bytes 1 0 ≡ l.block.flags;
  each : (k : ℕ) → k < l.i → get_or l.bytes (k + 2) 0 ≡ get_or l.block.codes (2 * k) 0 + 16 * get_or l.block.codes (2 * k + 1) 0;
}
