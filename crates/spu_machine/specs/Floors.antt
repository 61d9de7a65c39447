-- Floors under the error of the rest of a block, whatever its codes and whatever the state before it.
use Rattle.std.specs.Prelude.{ℕ, ℤ, pos, negsuc, List}
use Rattle.window_floor.specs.Windows.{Windows, floor_from}
use Rattle.linear_machine.specs.Linear.{Linear}
use Rattle.linear_machine.specs.Samples.{samples_by}
use Rattle.spu_machine.specs.Spu.{spu, sample_of, shift_of, filter_of, output_of}
use Rattle.spu_machine.specs.Rows.{spu_row}

-- what the sixteen codes stand for under a shift
abbrev pub samples_under : ℕ → List ℤ
samples_under shift = samples_by (sample_of shift)

-- the windows of a block under a head
abbrev pub spu_windows : ℕ → Windows
spu_windows head = record { places = 28; row = spu_row (filter_of head); samples = samples_under (shift_of head); first = pos 32767; second = negsuc 32767 }

-- what it means as a linear decoder
abbrev pub spu_linear : Linear
spu_linear = record { decoder = spu; windows = spu_windows; output = output_of }

-- the floor under all that comes from place p on
unfoldable pub spu_floor : ℕ → ℕ → List ℤ → ℕ
spu_floor head p targets = floor_from (spu_windows head) targets p
