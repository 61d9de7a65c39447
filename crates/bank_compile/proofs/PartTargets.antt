-- The targets of a segment.
use Rattle.std.proofs.Common.{◌≡◌, ℕ, ◌+◌, ◌*◌, ◌/◌, ◌<◌, ◌≤◌, ℤ, List, length, slice_range, sym, ap, ◌∙◌, subst, arith}
use Rattle.std.proofs.lemmas.Nat.{div-mul-add}
use Rattle.adpcm_nums.specs.Sample.{AreSamples}
use Rattle.machine_core.specs.Decoder.{Decoder}
use Rattle.machine_core.specs.Rules.{Rules}
use Rattle.machine_core.specs.Segments.{part_targets}
use Rattle.beam_encoder.specs.Beam.{block_count, AreWhole}
use Rattle.branch_bound.specs.declared.top.Found.{Found}
use Rattle.bank_kinds.proofs.CertifiedBounds.{part-count, part-range}
use Rattle.manifest_reader.specs.declared.effort.Effort.{Effort}
use Rattle.bank_compile.specs.Segment.{IsFound}

-- a run of targets, where a block has n samples
pub part-is : (d : Decoder) (targets : List ℤ) (b count n : ℕ) → n ≡ d.samples → slice_range targets (b * n) (b * n + count * n) ≡ part_targets d targets b count
part-is d targets b count n e = ap (λ z. slice_range targets (b * z) (b * z + count * z)) e

-- they make so many blocks
pub part-blocks : (d : Decoder) (targets : List ℤ) (b count : ℕ) → 0 < d.samples → (b + count) * d.samples ≤ length targets → block_count d (part_targets d targets b count) ≡ count
part-blocks d targets b count some within =
    let plain : count * d.samples + 0 ≡ count * d.samples = omega arith in
    ap (λ z. z / d.samples) (part-count d targets b count within ∙ sym plain) ∙ div-mul-add count d.samples 0 some

-- which are whole
pub part-whole : (d : Decoder) (targets : List ℤ) (b count : ℕ) → 0 < d.samples → (b + count) * d.samples ≤ length targets → length targets ≤ 262144 → AreSamples targets → AreWhole d (part_targets d targets b count)
part-whole d targets b count some within small range =
    let long = part-count d targets b count within in
    record {
      count = long ∙ ap (λ z. z * d.samples) (sym (part-blocks d targets b count some within));
      few = omega (arith, long);
      range = part-range d targets b count within range;
    }

-- what was found for a run of targets was found for so many blocks
pub part-found : (r : Rules) (effort : Effort) (share : ℕ) (targets xs : List ℤ) (b count : ℕ) (f : Found) → xs ≡ part_targets r.decoder targets b count → 0 < r.decoder.samples → (b + count) * r.decoder.samples ≤ length targets
    → IsFound r effort share xs (block_count r.decoder xs) f → IsFound r effort share (part_targets r.decoder targets b count) count f
part-found r effort share targets xs b count f is some within found =
    subst (λ (n : ℕ). IsFound r effort share (part_targets r.decoder targets b count) n f) (part-blocks r.decoder targets b count some within)
    (subst (λ (ts : List ℤ). IsFound r effort share ts (block_count r.decoder ts) f) is found)
