-- What the bytes of a certificate show is a bound.
use Rattle.std.proofs.Common.{◌≡◌, ℕ, ◌+◌, ◌*◌, ◌<◌, ◌≤◌, ℤ, List, [], ◌∷◌, length, sym, subst, arith, IsTrue, true, Bool}
use Rattle.std.specs.List.{sum_by}
use Rattle.std.proofs.lemmas.Bool.Decides.{nat_tests}
use Rattle.std.proofs.lemmas.List.Sums.{sum_by-cons}
use Rattle.std.proofs.Math.Nat.{mul-le-mul_right}
use Rattle.adpcm_nums.specs.Sample.{AreSamples, IsSample}
use Rattle.machine_core.specs.Blocks.{Blocks, IsLegal, first_only}
use Rattle.machine_core.specs.Cells.{is_level}
use Rattle.machine_core.specs.Decoder.{Decoder}
use Rattle.machine_core.specs.Rules.{Rules}
use Rattle.machine_core.specs.Floors.{floor_of_blocks}
use Rattle.machine_core.specs.Sums.{sum_of}
use Rattle.machine_core.specs.Segments.{part_of, part_targets, AreSegments, AreLegal, segment_sums}
use Rattle.machine_core.proofs.Lists.{get_or-part, length-part}
use Rattle.machine_core.proofs.SegmentLaws.{segments-end}
use Rattle.box_layers.specs.Certificates.{Certificate, IsAccepted, value}
use Rattle.bound_cert.specs.Content.{Segment}
use Rattle.bound_cert.specs.Ranges.{is_level_byte}
use Rattle.cert_check.specs.Layers.{certificate_in}
use Rattle.cert_check.proofs.Accept.{bound}
use Rattle.bank_kinds.specs.Certified.{IsShown, AreShown}
use Rattle.bank_kinds.proofs.ReadSegments.{IsRead, AreRead}

-- the targets of some blocks are as many as these blocks have samples
pub part-count : (d : Decoder) (targets : List ℤ) (b count : ℕ) → (b + count) * d.samples ≤ length targets → length (part_targets d targets b count) ≡ count * d.samples
part-count d targets b count within = length-part targets (b * d.samples) (count * d.samples) (omega arith)

-- and samples, where all are
pub part-range : (d : Decoder) (targets : List ℤ) (b count : ℕ) → (b + count) * d.samples ≤ length targets → AreSamples targets → AreSamples (part_targets d targets b count)
part-range d targets b count within range k z below =
    let long = part-count d targets b count within in
    subst IsSample (sym (get_or-part targets (b * d.samples) (count * d.samples) k z (omega arith))) (range (b * d.samples + k) z (omega arith))

-- a level that is not that of a segment without cells
level-is : (level : ℕ) → is_level_byte level ≡ true → (level ≡ 255 → ⊥) → is_level level ≡ true
level-is level h other = grind (arith, nat_tests, other)

-- what holds of every accepted certificate
abbrev pub AcceptedHold : Rules → Type 0
AcceptedHold r = (targets : List ℤ) (c : Certificate) (list : Blocks) → IsTrue (is_level c.level) → IsLegal r.decoder c.blocks first_only list → length targets ≡ c.blocks * r.decoder.samples
    → AreSamples targets → IsAccepted r targets c → value r targets c ≤ sum_of r.decoder list targets c.blocks

-- and of the floors
abbrev pub FloorsHold : Rules → Type 0
FloorsHold r = (blocks : ℕ) (targets : List ℤ) (list : Blocks) → IsLegal r.decoder blocks first_only list → length targets ≡ blocks * r.decoder.samples → AreSamples targets
    → floor_of_blocks r first_only targets blocks ≤ sum_of r.decoder list targets blocks

-- one segment
one-below : (r : Rules) (targets : List ℤ) (count : ℕ) (s : Segment) (list : Blocks) → AcceptedHold r → FloorsHold r → IsRead count s → IsShown r targets s
    → IsLegal r.decoder count first_only list → length targets ≡ count * r.decoder.samples → AreSamples targets → s.bound ≤ sum_of r.decoder list targets count
one-below r targets count s list accepted floors read shown legal long range =
    let same = read.blocks_are in
    let here = subst (λ (n : ℕ). IsLegal r.decoder n first_only list) (sym same) legal in
    let whole = subst (λ (n : ℕ). length targets ≡ n * r.decoder.samples) (sym same) long in
    let level : 0 < length s.layers → IsTrue (is_level s.level) = λ some. level-is s.level read.level (λ q. (let none = read.floor_only q in absurd (omega arith))) in
    subst (λ (n : ℕ). s.bound ≤ sum_of r.decoder list targets n) same
    (bound r targets s.level s.blocks s.bound (sum_of r.decoder list targets s.blocks) s.layers level (floors s.blocks targets list here whole range)
    (λ is. accepted targets (certificate_in r s) list is here whole range shown.accepted) shown.bound)

-- all of them
pub segments-below : (r : Rules) (fixed : ℕ → Bool) (targets : List ℤ) (blocks : ℕ) (list : Blocks) → AcceptedHold r → FloorsHold r → length targets ≡ blocks * r.decoder.samples → AreSamples targets
    → (b : ℕ) (counts : List ℕ) (ss : List Segment) → AreRead counts ss → AreShown r targets b ss → AreSegments fixed b counts blocks → AreLegal r.decoder list b counts
    → sum_by (λ s. s.bound) ss ≤ segment_sums r.decoder list targets b counts
segments-below r fixed targets blocks list accepted floors long range b [] [] read shown cut legal = omega arith
segments-below r fixed targets blocks list accepted floors long range b [] (s ∷ ss) read shown cut legal = absurd read
segments-below r fixed targets blocks list accepted floors long range b (count ∷ counts) [] read shown cut legal = absurd read
segments-below r fixed targets blocks list accepted floors long range b (count ∷ counts) (s ∷ ss) read shown cut legal =
    let same = read.0.blocks_are in
    let end = segments-end fixed (b + count) counts blocks cut.2 in
    let within : (b + count) * r.decoder.samples ≤ length targets = (let most = mul-le-mul_right r.decoder.samples end in omega arith) in
    let mine = part_targets r.decoder targets b count in
    let shows = subst (λ (n : ℕ). IsShown r (part_targets r.decoder targets b n) s) same shown.0 in
    let later = subst (λ (n : ℕ). AreShown r targets (b + n) ss) same shown.1 in
    let first = one-below r mine count s (part_of r.decoder list b count) accepted floors read.0 shows legal.0 (part-count r.decoder targets b count within) (part-range r.decoder targets b count within range) in
    let more = segments-below r fixed targets blocks list accepted floors long range (b + count) counts ss read.1 later cut.2 legal.1 in
    omega (arith, first, more, sym (sum_by-cons (λ (z : Segment). z.bound) s ss))
