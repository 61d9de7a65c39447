-- The sampler that is written for a loop.
use Rattle.std.specs.Prelude.{ℕ, ◌/◌, List, [], ◌∷◌, flat_map}
use Rattle.byteorder.specs.Endian.{little_bytes}
use Rattle.adpcm_nums.specs.declared.loop_at.LoopAt.{LoopAt}

-- maker 0, product 0, nanoseconds a frame, unity note 60, pitch fraction 0, no SMPTE time, one loop, no further data;
-- then the loop: id 0, type 0, start, end, fraction 0, play count 0
abbrev pub sampler_fields : ℕ → LoopAt → List ℕ
sampler_fields rate at = 0 ∷ 0 ∷ 1000000000 / rate ∷ 60 ∷ 0 ∷ 0 ∷ 0 ∷ 1 ∷ 0 ∷ 0 ∷ 0 ∷ at.start ∷ at.end ∷ 0 ∷ 0 ∷ []

-- four bytes a field
unfoldable pub sampler_of : ℕ → LoopAt → List ℕ
sampler_of rate at = flat_map (little_bytes 4) (sampler_fields rate at)
