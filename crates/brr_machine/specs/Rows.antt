-- What each filter of BRR ties together (fullsnes, BRR samples).
use Rattle.std.specs.Prelude.{ℕ, zero, suc, pos, negsuc, true, false}
use Rattle.window_floor.specs.Row.{Row, row}

-- outputs count twice, and wrap to 15 bits; under filter 0 an output is a sample, which is too small to wrap
abbrev pub brr_row : ℕ → Row
brr_row zero = row (pos 1) (pos 0) (pos 0) (pos 0) 0 (pos 2) 1 false
brr_row (suc zero) = row (pos 16) (pos 15) (pos 0) (pos 0) 15 (pos 2) 481 true
brr_row (suc (suc zero)) = row (pos 32) (pos 61) (negsuc 29) (pos 0) 61 (pos 2) 5645 true
brr_row _ = row (pos 64) (pos 115) (negsuc 51) (pos 0) 123 (pos 2) 20025 true
