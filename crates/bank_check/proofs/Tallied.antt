-- One segment after another is tested: what is left to test, after what was tested, is the whole.
use Rattle.std.proofs.Common.{◌≡◌, ℕ, zero, suc, ◌+◌, ◌*◌, ◌^◌, ◌≤◌, ℤ, List, [], ◌∷◌, length, take, drop, arith, ap, sym, ◌∙◌, Some, None, Ok, Err}
use Rattle.std.specs.Prelude.{slice_get, slice_range, ◌==◌, Result}
use Rattle.std.specs.List.{sum_by}
use Rattle.std.proofs.lemmas.List.Sums.{sum_by-cons}
use Rattle.std.proofs.lemmas.Bool.{cond-true, cond-false, eq-eqb, ne_eqb}
use Rattle.std.proofs.lemmas.List.{drop_all}
use Rattle.std.proofs.Math.Nat.{mul-le-mul_right}
use Rattle.adpcm_nums.specs.Outcome.{◌>>=◌}
use Rattle.machine_core.specs.Rules.{Rules}
use Rattle.machine_core.specs.Segments.{part_targets}
use Rattle.box_layers.specs.Certificates.{value}
use Rattle.bound_cert.specs.Content.{Segment}
use Rattle.bound_cert.specs.Good.{blocks_in}
use Rattle.cert_check.specs.declared.checking.CellFault.{CellFault}
use Rattle.cert_check.specs.Layers.{certificate_in}
use Rattle.command_faults.specs.declared.refusal.CertRefusal.{CertRefusal}
use Rattle.command_faults.specs.declared.refusal.CertRefusal.TheVariants.{Cell, Bound}
use Rattle.bank_check.specs.declared.tally.Tally.{Tally}
use Rattle.bank_check.specs.Cells.{segment_fault}
use Rattle.bank_check.specs.Proven.{bound_or, segment_bound}
use Rattle.bank_check.specs.Tally.{with_segment, tally_from}

-- a segment without a fault that records what it shows
pub bound-same : (r : Rules) (targets : List ℤ) (i have found : ℕ) (s : Segment) → segment_fault r targets s ≡ None → have ≡ s.bound → found ≡ value r targets (certificate_in r s) → have ≡ found
    → Ok have ≡ segment_bound r targets i s
unfolding segment_bound
bound-same r targets i have found s none records shows same =
    let v = value r targets (certificate_in r s) in
    ap (λ n. Ok n) records ∙ sym (ap (λ o. bound_or i o s.bound v) none ∙ cond-true (s.bound == v) _ _ (eq-eqb s.bound v (sym records ∙ (same ∙ shows))))

-- one that records something else
pub bound-other : (r : Rules) (targets : List ℤ) (i have found : ℕ) (s : Segment) → segment_fault r targets s ≡ None → have ≡ s.bound → found ≡ value r targets (certificate_in r s) → (have ≡ found → ⊥)
    → ◌≡◌ {A = Result ℕ CertRefusal} (Err (Bound i have found)) (segment_bound r targets i s)
unfolding segment_bound
bound-other r targets i have found s none records shows other =
    let v = value r targets (certificate_in r s) in
    ap (λ n. Err (Bound i n found)) records ∙ (ap (λ n. Err (Bound i s.bound n)) shows
    ∙ sym (ap (λ o. bound_or i o s.bound v) none ∙ cond-false (s.bound == v) _ _ (ne_eqb s.bound v (λ e. other (records ∙ (e ∙ sym shows))))))

-- and one with a fault
pub bound-fault : (r : Rules) (targets : List ℤ) (i : ℕ) (s : Segment) (e : CellFault) → segment_fault r targets s ≡ Some e → ◌≡◌ {A = Result ℕ CertRefusal} (Err (Cell i e)) (segment_bound r targets i s)
unfolding segment_bound
bound-fault r targets i s e some = sym (ap (λ o. bound_or i o s.bound (value r targets (certificate_in r s))) some)

-- the element at a place stands before the later ones
pub drop-here : {X : Type 0} (xs : List X) (i : ℕ) (x : X) → slice_get xs i ≡ Some x → drop i xs ≡ x ∷ drop (suc i) xs
drop-here [] i x here = absurd (cc)
drop-here (y ∷ ys) zero x here = let same : y ≡ x = cc in ap (λ z. z ∷ ys) same
drop-here (y ∷ ys) (suc i) x here = drop-here ys i x here

-- how many blocks come before a segment
pub blocks-before : (ss : List Segment) (i : ℕ) (s : Segment) → slice_get ss i ≡ Some s → sum_by blocks_in (take (suc i) ss) ≡ sum_by blocks_in (take i ss) + s.blocks
blocks-before [] i s here = absurd (cc)
blocks-before (y ∷ ys) zero s here = let same : y ≡ s = cc in let e = ap blocks_in same in omega (arith, e, sum_by-cons blocks_in y [])
blocks-before (y ∷ ys) (suc i) s here = let more = blocks-before ys i s here in omega (arith, more, sum_by-cons blocks_in y (take (suc i) ys), sum_by-cons blocks_in y (take i ys))

-- and none are more than all
pub blocks-within : (ss : List Segment) (i : ℕ) → sum_by blocks_in (take i ss) ≤ sum_by blocks_in ss
blocks-within [] zero = omega arith
blocks-within [] (suc i) = omega arith
blocks-within (y ∷ ys) zero = omega arith
blocks-within (y ∷ ys) (suc i) = let more = blocks-within ys i in omega (arith, more, sum_by-cons blocks_in y (take i ys), sum_by-cons blocks_in y ys)

here-tallied : (r : Rules) (targets : List ℤ) (t : Tally) (i b : ℕ) (s : Segment) (ss : List Segment) (v : Result ℕ CertRefusal) → segment_bound r (part_targets r.decoder targets b s.blocks) i s ≡ v
    → tally_from r targets t i b (s ∷ ss) ≡ (v >>= (λ bound. tally_from r targets (with_segment t bound s.level) (suc i) (b + s.blocks) ss))
unfolding tally_from
here-tallied r targets t i b s ss v e = ap (λ z. z >>= (λ bound. tally_from r targets (with_segment t bound s.level) (suc i) (b + s.blocks) ss)) e

-- the next segment is tested
pub tally-on : (r : Rules) (targets : List ℤ) (t : Tally) (i b bound : ℕ) (ss : List Segment) (s : Segment) (whole : Result Tally CertRefusal) → slice_get ss i ≡ Some s
    → tally_from r targets t i b (drop i ss) ≡ whole → Ok bound ≡ segment_bound r (part_targets r.decoder targets b s.blocks) i s
    → tally_from r targets (with_segment t bound s.level) (suc i) (b + s.blocks) (drop (suc i) ss) ≡ whole
tally-on r targets t i b bound ss s whole here left is =
    sym (ap (λ z. tally_from r targets t i b z) (drop-here ss i s here) ∙ here-tallied r targets t i b s (drop (suc i) ss) (Ok bound) (sym is)) ∙ left

-- it is refused
pub tally-stops : (r : Rules) (targets : List ℤ) (t : Tally) (i b : ℕ) (refusal : CertRefusal) (ss : List Segment) (s : Segment) (whole : Result Tally CertRefusal) → slice_get ss i ≡ Some s
    → tally_from r targets t i b (drop i ss) ≡ whole → Err refusal ≡ segment_bound r (part_targets r.decoder targets b s.blocks) i s → Err refusal ≡ whole
tally-stops r targets t i b refusal ss s whole here left is =
    sym (ap (λ z. tally_from r targets t i b z) (drop-here ss i s here) ∙ here-tallied r targets t i b s (drop (suc i) ss) (Err refusal) (sym is)) ∙ left

-- there is none
pub tally-ends : (r : Rules) (targets : List ℤ) (t : Tally) (i b : ℕ) (ss : List Segment) (whole : Result Tally CertRefusal) → length ss ≤ i → tally_from r targets t i b (drop i ss) ≡ whole → Ok t ≡ whole
unfolding tally_from
tally-ends r targets t i b ss whole all left = sym (ap (λ z. tally_from r targets t i b z) (drop_all i ss all)) ∙ left

-- the targets of the next segment end where its blocks do
pub part-ends : (ss : List Segment) (i first n size : ℕ) (s : Segment) → slice_get ss i ≡ Some s → first ≡ sum_by blocks_in (take i ss) * n → size ≡ sum_by blocks_in ss * n
    → first + s.blocks * n ≤ size
part-ends ss i first n size s here at whole =
    let most : sum_by blocks_in (take (suc i) ss) * n ≤ sum_by blocks_in ss * n = mul-le-mul_right n (blocks-within ss (suc i)) in
    let e = ap (λ z. z * n) (blocks-before ss i s here) in
    omega (arith, most, e, at, whole)

-- and the next segment after it begins there
pub part-next : (ss : List Segment) (i first n : ℕ) (s : Segment) → slice_get ss i ≡ Some s → first ≡ sum_by blocks_in (take i ss) * n → first + s.blocks * n ≡ sum_by blocks_in (take (suc i) ss) * n
part-next ss i first n s here at = let e = ap (λ z. z * n) (blocks-before ss i s here) in omega (arith, e, at)

-- a segment has no more blocks than all
pub one-within : (ss : List Segment) (i : ℕ) (s : Segment) → slice_get ss i ≡ Some s → s.blocks ≤ sum_by blocks_in ss
one-within ss i s here = let e = blocks-before ss i s here in let w = blocks-within ss (suc i) in omega (arith, e, w)

-- the targets that are handed over are those of the segment's blocks
pub part-is : (targets part : List ℤ) (first blocks samples n b count : ℕ) → first ≡ b * n → blocks ≡ count → samples ≡ n → part ≡ slice_range targets first (first + blocks * samples)
    → part ≡ slice_range targets (b * n) (b * n + count * n)
part-is targets part first blocks samples n b count at p q e =
    let size : blocks * samples ≡ count * n = ap (λ z. z * samples) p ∙ ap (λ z. count * z) q in
    e ∙ (ap (λ z. slice_range targets z (z + blocks * samples)) at ∙ ap (λ z. slice_range targets (b * n) (b * n + z)) size)

-- a segment that was tested with these targets
pub record IsTested (r : Rules) (targets : List ℤ) (ss : List Segment) (i first blocks samples : ℕ) (s : Segment) (part : List ℤ) : Type 0 where
  pub here : slice_get ss i ≡ Some s
  pub first_is : first ≡ sum_by blocks_in (take i ss) * r.decoder.samples
  pub blocks_are : blocks ≡ s.blocks
  pub samples_are : samples ≡ r.decoder.samples
  pub part_is : part ≡ slice_range targets first (first + blocks * samples)

same-part : (r : Rules) (targets : List ℤ) (ss : List Segment) (i first blocks samples : ℕ) (s : Segment) (part : List ℤ) → IsTested r targets ss i first blocks samples s part
    → segment_bound r part i s ≡ segment_bound r (part_targets r.decoder targets (sum_by blocks_in (take i ss)) s.blocks) i s
same-part r targets ss i first blocks samples s part t =
    ap (λ z. segment_bound r z i s) (part-is targets part first blocks samples r.decoder.samples (sum_by blocks_in (take i ss)) s.blocks t.first_is t.blocks_are t.samples_are t.part_is)

pub tested-on : (r : Rules) (targets : List ℤ) (ss : List Segment) (i first blocks samples : ℕ) (s : Segment) (part : List ℤ) (t : Tally) (bound : ℕ) (whole : Result Tally CertRefusal)
    → IsTested r targets ss i first blocks samples s part → Ok bound ≡ segment_bound r part i s → tally_from r targets t i (sum_by blocks_in (take i ss)) (drop i ss) ≡ whole
    → tally_from r targets (with_segment t bound s.level) (i + 1) (sum_by blocks_in (take (i + 1) ss)) (drop (i + 1) ss) ≡ whole
tested-on r targets ss i first blocks samples s part t bound whole is e left =
    let next : i + 1 ≡ suc i = omega arith in
    let at : sum_by blocks_in (take (suc i) ss) ≡ sum_by blocks_in (take i ss) + s.blocks = blocks-before ss i s is.here in
    ap (λ k. tally_from r targets (with_segment t bound s.level) k (sum_by blocks_in (take k ss)) (drop k ss)) next
    ∙ (ap (λ z. tally_from r targets (with_segment t bound s.level) (suc i) z (drop (suc i) ss)) at
    ∙ tally-on r targets t i (sum_by blocks_in (take i ss)) bound ss s whole is.here left (e ∙ same-part r targets ss i first blocks samples s part is))

pub tested-stops : (r : Rules) (targets : List ℤ) (ss : List Segment) (i first blocks samples : ℕ) (s : Segment) (part : List ℤ) (t : Tally) (refusal : CertRefusal) (whole : Result Tally CertRefusal)
    → IsTested r targets ss i first blocks samples s part → Err refusal ≡ segment_bound r part i s → tally_from r targets t i (sum_by blocks_in (take i ss)) (drop i ss) ≡ whole → Err refusal ≡ whole
tested-stops r targets ss i first blocks samples s part t refusal whole is e left =
    tally-stops r targets t i (sum_by blocks_in (take i ss)) refusal ss s whole is.here left (e ∙ same-part r targets ss i first blocks samples s part is)

pub tested-next : (r : Rules) (targets : List ℤ) (ss : List Segment) (i first blocks samples : ℕ) (s : Segment) (part : List ℤ) → IsTested r targets ss i first blocks samples s part
    → first + blocks * samples ≡ sum_by blocks_in (take (i + 1) ss) * r.decoder.samples
tested-next r targets ss i first blocks samples s part t =
    let next : i + 1 ≡ suc i = omega arith in
    let size : blocks * samples ≡ s.blocks * r.decoder.samples = ap (λ z. z * samples) t.blocks_are ∙ ap (λ z. s.blocks * z) t.samples_are in
    ap (λ z. first + z) size ∙ (part-next ss i first r.decoder.samples s t.here t.first_is ∙ ap (λ k. sum_by blocks_in (take k ss) * r.decoder.samples) (sym next))

-- and the targets that are handed over are there
pub fits-before : (ss : List Segment) (i first blocks samples n size : ℕ) (s : Segment) → slice_get ss i ≡ Some s → first ≡ sum_by blocks_in (take i ss) * n → blocks ≡ s.blocks → samples ≡ n
    → size ≡ sum_by blocks_in ss * n → first + blocks * samples ≤ size
fits-before ss i first blocks samples n size s here at p q whole =
    let same : blocks * samples ≡ s.blocks * n = ap (λ z. z * samples) p ∙ ap (λ z. s.blocks * z) q in
    let ends = part-ends ss i first n size s here at whole in
    omega (arith, same, ends)

-- the bounds so far are at most what so many targets can cost
pub grown_by : (before bound first count part after : ℕ) → after ≡ before + bound → before ≤ first * 2 ^ 32 → bound ≤ part * 2 ^ 32 → part ≡ count → after ≤ (first + count) * 2 ^ 32
grown_by before bound first count part after e so_far small same = omega (arith, e, so_far, small, same)

-- as many as were tested, and one more
pub still_few : (after before i : ℕ) → after ≤ before + 1 → before ≤ i → after ≤ i + 1
still_few after before i more so_far = omega (arith, more, so_far)
