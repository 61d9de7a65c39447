-- How many blocks targets make.
use Rattle.std.proofs.Common.{◌≡◌, ◌<◌, ◌+◌, ◌*◌, ℕ, ℤ, List, length, sym, subst, arith}
use Rattle.machine_core.specs.Decoder.{Decoder}
use Rattle.machine_core.proofs.Places.{block-of}
use Rattle.beam_encoder.specs.Near.{AreTargets}
use Rattle.beam_encoder.specs.Beam.{AreWhole, block_count}

-- so many as they are
pub count-is : (d : Decoder) (blocks : ℕ) (targets : List ℤ) → 0 < d.samples → AreTargets d blocks targets → block_count d targets ≡ blocks
count-is d blocks targets some are =
    let all : length targets ≡ blocks * d.samples + 0 = (let e = are.count in omega arith) in
    block-of blocks d.samples 0 (length targets) all some

-- and they are whole
pub whole-are : (d : Decoder) (blocks : ℕ) (targets : List ℤ) → 0 < d.samples → AreTargets d blocks targets → AreWhole d targets
whole-are d blocks targets some are = subst (λ (n : ℕ). AreTargets d n targets) (sym (count-is d blocks targets some are)) are
