use Rattle.std.proofs.Common.{◌≡◌, ◌<◌, ℕ, suc, length, get_or}
use Rattle.std.specs.Prelude.{pos, IsTrue}
use Rattle.machine_core.specs.Decoder.{run}
use Rattle.spu_machine.specs.Spu.{spu, is_spu_state}
use Rattle.spu_machine.proofs.decode.decode_block.Given as goal

abbrev pub invariant-loop-place : goal.invariant-loop-place
invariant-loop-place l = record {
  len : length l.outputs ≡ 28;
  outputs : (k : ℕ) → k < l.place → get_or l.outputs k (pos 0) ≡ (run spu l.block.head (λ p. get_or l.block.codes p 0) l.initial.state (suc k)).a;
  state : l.state ≡ run spu l.block.head (λ p. get_or l.block.codes p 0) l.initial.state l.place;
  range : IsTrue (is_spu_state l.state);
}
