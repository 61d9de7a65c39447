use Rattle.std.proofs.Common.{◌≡◌, ℕ, ◌<◌, length, get_or}
use Rattle.adpcm_nums.specs.LeastValue.{least}
use Rattle.machine_core.specs.Floors.{top}
use Rattle.ima_machine.specs.Rows.{paid_ahead}
use Rattle.ima_machine.proofs.quick.paid_row.Given as goal

abbrev pub invariant-loop-index : goal.invariant-loop-index
invariant-loop-index l = record {
  size : length l.row ≡ 89;
  each : (i : ℕ) → i < l.index → get_or l.row i 0 ≡ least 16 (paid_ahead l.before l.here l.ahead i) top;
}
