use Rattle.std.proofs.Common.{◌≡◌, ◌+◌, ◌-◌, length, IsTrue}
use Rattle.machine_core.specs.Decoder.{start, miss}
use Rattle.machine_core.specs.Blocks.{Blocks}
use Rattle.machine_core.specs.Sums.{sum_after}
use Rattle.path_encoder.proofs.played.played.Given as goal

abbrev pub invariant-loop-i : goal.invariant-loop-i
invariant-loop-i g l = let d = (g.M.Machine.rules l.machine).decoder in
    let list : Blocks = record { heads = l.heads; symbols = l.symbols } in
    record {
      fits : IsTrue (d.is_state l.state);
      left : l.sum + sum_after d (miss d l.targets) list l.state l.i (length l.targets - l.i) ≡ sum_after d (miss d l.targets) list start 0 (length l.targets);
    }
