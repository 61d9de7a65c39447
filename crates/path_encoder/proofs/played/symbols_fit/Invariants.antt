use Rattle.std.proofs.Common.{ℕ, ◌<◌, ◌%◌, get_or}
use Rattle.path_encoder.proofs.played.symbols_fit.Given as goal

abbrev pub invariant-loop-i : goal.invariant-loop-i
invariant-loop-i g l = let d = (g.M.Machine.rules l.machine).decoder in
    (i : ℕ) → i < l.i → get_or l.symbols i 0 < d.symbols (i % d.samples)
