-- The floor under the error of a fitted sound.
use Rattle.std.specs.Prelude.{ℕ}
use Rattle.machine_core.specs.Segments.{segment_floors}
use Rattle.loop_fit.specs.declared.fitted.Fitted.{Fitted}
use Rattle.bank_kinds.specs.Codec.{Codec}
use Rattle.bank_kinds.specs.Certified.{segments_in}

-- the sum over its segments of what a certificate without cells shows of each
abbrev pub floor_of : Codec → Fitted → ℕ
floor_of c fitted = segment_floors c.rules fitted.targets 0 (segments_in c fitted)
