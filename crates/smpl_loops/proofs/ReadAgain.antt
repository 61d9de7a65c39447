-- The sampler that is written for a loop is read as that loop.
use Rattle.std.proofs.Common.{◌≡◌, ℕ, ◌≤◌, ◌<◌, ◌^◌, true, false, [], ◌∷◌, Some, Ok, refl, arith}
use Rattle.std.specs.Prelude.{nat_lt, flat_map}
use Rattle.std.proofs.lemmas.Bool.{lt-ltb, le-ltb}
use Rattle.byteorder.specs.Endian.{little_bytes}
use Rattle.byteorder.specs.Numbers.{little_number-reads_back}
use Rattle.adpcm_nums.specs.declared.loop_at.LoopAt.{LoopAt}
use Rattle.smpl_loops.specs.Loops.{loop_start, loop_end, loop_in, first_loop_of}
use Rattle.smpl_loops.specs.Sampler.{sampler_of}

-- start and end are read back, and no test refuses them
pub read_again : (rate frames : ℕ) (at : LoopAt) → at.start ≤ at.end → at.end < frames → frames < 2 ^ 32
    → first_loop_of (Some (sampler_of rate at)) frames ≡ Ok (Some at)
unfolding loop_in sampler_of
read_again rate frames at forward inside small =
    let start : loop_start (sampler_of rate at) ≡ at.start = little_number-reads_back 4 at.start (flat_map (little_bytes 4) (at.end ∷ 0 ∷ 0 ∷ [])) (omega arith) in
    let end : loop_end (sampler_of rate at) ≡ at.end = little_number-reads_back 4 at.end (flat_map (little_bytes 4) (0 ∷ 0 ∷ [])) (omega arith) in
    let in_order : nat_lt at.end at.start ≡ false = le-ltb _ _ forward in
    let within : nat_lt at.end frames ≡ true = lt-ltb _ _ inside in
    rw (start, end, in_order, within) refl
