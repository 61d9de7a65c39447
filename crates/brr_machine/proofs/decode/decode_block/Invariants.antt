use Rattle.std.proofs.Common.{◌≡◌, ◌<◌, ℕ, suc, length, get_or}
use Rattle.std.specs.Prelude.{pos, IsTrue}
use Rattle.machine_core.specs.Decoder.{run}
use Rattle.brr_machine.specs.Brr.{brr, is_brr_state}
use Rattle.brr_machine.specs.Spelling.{head_in, code_in}
use Rattle.brr_machine.proofs.decode.decode_block.Given as goal

abbrev pub invariant-loop-place : goal.invariant-loop-place
invariant-loop-place l = record {
  len : length l.outputs ≡ 16;
  outputs : (k : ℕ) → k < l.place → get_or l.outputs k (pos 0) ≡ (run brr (head_in l.bytes 0) (code_in l.bytes 0) l.initial.state (suc k)).a;
  state : l.state ≡ run brr (head_in l.bytes 0) (code_in l.bytes 0) l.initial.state l.place;
  range : IsTrue (is_brr_state l.state);
}
