use Rattle.std.proofs.Common.{◌≡◌, ◌+◌, ◌-◌, length, IsTrue}
use Rattle.machine_core.specs.Decoder.{start, miss}
use Rattle.machine_core.specs.Sums.{sum_after}
use Rattle.player_model.specs.Stored.{blocks_in}
use Rattle.bank_check.proofs.hearing.stored_error.Given as goal

abbrev pub invariant-loop-i : goal.invariant-loop-i
invariant-loop-i g l = let d = (g.C.Machine.rules l.codec).decoder in
    let list = blocks_in d (g.C.Stored.format l.codec) l.memory l.start l.blocks in
    record {
      fits : IsTrue (d.is_state l.state);
      left : l.sum + sum_after d (miss d l.targets) list l.state l.i (length l.targets - l.i) ≡ sum_after d (miss d l.targets) list start 0 (length l.targets);
    }
