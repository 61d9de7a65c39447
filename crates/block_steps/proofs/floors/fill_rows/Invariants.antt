use Rattle.std.proofs.Common.{◌≡◌, ◌*◌, length}
use Rattle.block_steps.specs.Tables.{HoldFirst}
use Rattle.block_steps.proofs.floors.fill_rows.Given as goal

abbrev pub invariant-loop-h : goal.invariant-loop-h
invariant-loop-h g l = let m = g.M.Machine.rules l.machine in
    record { count : length l.rows ≡ m.decoder.heads * m.floor_len; each : HoldFirst m l.targets l.rows l.h }
