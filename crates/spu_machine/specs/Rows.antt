-- What each filter of SPU-ADPCM ties together (PSX-SPX, SPU ADPCM samples).
use Rattle.std.specs.Prelude.{ℕ, zero, suc, pos, false}
use Rattle.window_floor.specs.Row.{Row, row}
use Rattle.spu_machine.specs.Spu.{last_weight, older_weight}

-- the sum of the squares of 64 and of the two weights
abbrev pub norm_of : ℕ → ℕ
norm_of zero = 4096
norm_of (suc zero) = 7696
norm_of (suc (suc zero)) = 20025
norm_of (suc (suc (suc zero))) = 16725
norm_of _ = 22580

-- half of the divisor is added, so that a quotient is rounded to the nearest; under filter 0 an output is a sample
abbrev pub spu_row : ℕ → Row
spu_row zero = row (pos 1) (pos 0) (pos 0) (pos 0) 0 (pos 1) 1 false
spu_row (suc n) = row (pos 64) (last_weight (suc n)) (older_weight (suc n)) (pos 32) 63 (pos 1) (norm_of (suc n)) false
