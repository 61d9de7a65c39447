-- The floor under a segment alone is that of its blocks in the whole.
use Rattle.std.proofs.Common.{◌≡◌, ℕ, suc, ◌+◌, ◌*◌, ◌<◌, ◌≤◌, arith, ap, ◌∙◌, sym, refl, ℤ, List, Bool}
use Rattle.std.proofs.Math.Nat.{mul-le-mul_right}
use Rattle.adpcm_nums.proofs.RangeSumLaws.{sum_range-same}
use Rattle.machine_core.specs.Blocks.{rule_of, first_only}
use Rattle.machine_core.specs.Rules.{Rules}
use Rattle.machine_core.specs.Floors.{block_targets, ruled_floor, block_floor, floors_from}
use Rattle.machine_core.specs.Segments.{part_targets, IsSegment}
use Rattle.machine_core.proofs.Lists.{part-of-part}
use Rattle.machine_core.proofs.PartLaws.{segment-rule}

-- the floor of one block
part-floor : (r : Rules) (fixed : ℕ → Bool) (targets : List ℤ) (b count k i : ℕ) → IsSegment fixed b count → k < count → i ≡ b + k
    → block_floor r first_only (part_targets r.decoder targets b count) k ≡ block_floor r fixed targets i
part-floor r fixed targets b count k i segment below e =
    let samples = r.decoder.samples in
    let ends : suc k * samples ≤ count * samples = mul-le-mul_right samples below in
    let targets_same : block_targets r (part_targets r.decoder targets b count) k ≡ block_targets r targets i = part-of-part targets (b * samples) (count * samples) (k * samples) samples (i * samples) (omega arith) (ap (λ z. z * samples) e ∙ omega arith) in
    let rule : rule_of first_only k ≡ rule_of fixed i = sym (ap (rule_of fixed) e ∙ segment-rule fixed b count k segment below) in
    ap (λ z. ruled_floor r z (block_targets r (part_targets r.decoder targets b count) k)) rule ∙ ap (ruled_floor r (rule_of fixed i)) targets_same

-- the floors of all of them
pub part-floors : (r : Rules) (fixed : ℕ → Bool) (targets : List ℤ) (b count : ℕ) → IsSegment fixed b count
    → floors_from r first_only (part_targets r.decoder targets b count) 0 count ≡ floors_from r fixed targets b count
part-floors r fixed targets b count segment =
    sum_range-same (block_floor r first_only (part_targets r.decoder targets b count)) (block_floor r fixed targets) 0 b count
    (λ k below.
    (let here : 0 + k ≡ k = omega arith in
    let first = ap (block_floor r first_only (part_targets r.decoder targets b count)) here in
    first ∙ part-floor r fixed targets b count k (b + k) segment below refl))
