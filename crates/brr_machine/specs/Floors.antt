-- Floors under the error of the rest of a block, whatever its codes and whatever the state before it.
use Rattle.std.specs.Prelude.{ℕ, ℤ, pos, negsuc, List}
use Rattle.window_floor.specs.Windows.{Windows, floor_from}
use Rattle.linear_machine.specs.Linear.{Linear}
use Rattle.linear_machine.specs.Samples.{samples_by}
use Rattle.brr_machine.specs.Brr.{brr, sample_of, shift_of, filter_of, output_of}
use Rattle.brr_machine.specs.Rows.{brr_row}

-- what the sixteen codes stand for under a shift
abbrev pub samples_under : ℕ → List ℤ
samples_under shift = samples_by (sample_of shift)

-- the windows of a block under a head; clamped outputs wrap to -1 and 0
abbrev pub brr_windows : ℕ → Windows
brr_windows head = record { places = 16; row = brr_row (filter_of head); samples = samples_under (shift_of head); first = negsuc 0; second = pos 0 }

-- what it means as a linear decoder
abbrev pub brr_linear : Linear
brr_linear = record { decoder = brr; windows = brr_windows; output = output_of }

-- the floor under all that comes from place p on
unfoldable pub brr_floor : ℕ → ℕ → List ℤ → ℕ
brr_floor head p targets = floor_from (brr_windows head) targets p
