-- The segments of a sample make up the whole: its legal lists, its error and its floor.
use Rattle.std.proofs.Common.{◌≡◌, ℕ, ◌+◌, ◌-◌, ◌*◌, ◌<◌, ◌≤◌, arith, refl, ap, ◌∙◌, subst, inl, inr, IsTrue, ℤ, List, [], ◌∷◌, get_or, Bool}
use Rattle.std.proofs.lemmas.Bool.{cases_lt}
use Rattle.adpcm_nums.proofs.RangeSumLaws.{sum_range-add}
use Rattle.machine_core.specs.declared.state.State.{State}
use Rattle.machine_core.specs.Decoder.{Decoder, Forgets, miss}
use Rattle.machine_core.specs.Blocks.{Blocks, IsInRange, IsLegal, rule_of}
use Rattle.machine_core.specs.Sums.{sum_after}
use Rattle.machine_core.specs.Rules.{Rules}
use Rattle.machine_core.specs.Floors.{block_floor, floors_from}
use Rattle.machine_core.specs.Segments.{AreSegments, AreLegal, segment_sums, segment_floors}
use Rattle.machine_core.proofs.States.{sum-split, state_after}
use Rattle.machine_core.proofs.PartLaws.{segment-sum, part-legal, part-allows}
use Rattle.machine_core.proofs.FloorParts.{part-floors}

-- segments end at the sample's end
pub segments-end : (fixed : ℕ → Bool) (b : ℕ) (counts : List ℕ) (blocks : ℕ) → AreSegments fixed b counts blocks → b ≤ blocks
segments-end fixed b [] blocks are = omega (arith, are)
segments-end fixed b (count ∷ counts) blocks are = let later = segments-end fixed (b + count) counts blocks are.2 in omega (arith, later)

-- each segment of a legal list is legal alone
pub parts-legal : (d : Decoder) (blocks : ℕ) (fixed : ℕ → Bool) (list : Blocks) → 0 < d.samples → IsLegal d blocks fixed list
    → (b : ℕ) (counts : List ℕ) → AreSegments fixed b counts blocks → AreLegal d list b counts
parts-legal d blocks fixed list some legal b [] are = tt
parts-legal d blocks fixed list some legal b (count ∷ counts) are =
    let ends = segments-end fixed (b + count) counts blocks are.2 in
    (part-legal d blocks fixed list b count some legal ends are.1, parts-legal d blocks fixed list some legal (b + count) counts are.2)

-- a block of a list whose segments are legal alone is allowed
whole-allows : (d : Decoder) (blocks : ℕ) (fixed : ℕ → Bool) (list : Blocks) (b : ℕ) (counts : List ℕ) → AreSegments fixed b counts blocks → AreLegal d list b counts
    → (k : ℕ) → b ≤ k → k < blocks → IsTrue (d.allows (get_or list.heads k 0) (rule_of fixed k))
whole-allows d blocks fixed list b [] are legal k from below = absurd (omega (arith, are))
whole-allows d blocks fixed list b (count ∷ counts) are legal k from below =
    elim (cases_lt k (b + count)) [
      | inl within ↦ (
          let here : b + (k - b) ≡ k = omega arith in
          subst (λ (z : ℕ). IsTrue (d.allows (get_or list.heads z 0) (rule_of fixed z))) here (part-allows d fixed list b count (k - b) are.1 (omega arith) legal.0))
      | inr behind ↦ whole-allows d blocks fixed list (b + count) counts are.2 legal.1 k (omega arith) below
    ]

-- so the whole is legal
pub whole-legal : (d : Decoder) (blocks : ℕ) (fixed : ℕ → Bool) (list : Blocks) (counts : List ℕ) → IsInRange d blocks list → AreSegments fixed 0 counts blocks → AreLegal d list 0 counts
    → IsLegal d blocks fixed list
whole-legal d blocks fixed list counts fits are legal = record {
  in_range = fits;
  obeys = record { allowed = λ k below. whole-allows d blocks fixed list 0 counts are legal k (omega arith) below };
}

-- from block b on the error is that of the segments, from whatever state
pub segments-sum : (d : Decoder) (blocks : ℕ) (fixed : ℕ → Bool) (list : Blocks) (targets : List ℤ) → Forgets d → IsLegal d blocks fixed list
    → (b left : ℕ) (counts : List ℕ) (at : State) → AreSegments fixed b counts blocks → b + left ≡ blocks
    → sum_after d (miss d targets) list at (b * d.samples) (left * d.samples) ≡ segment_sums d list targets b counts
segments-sum d blocks fixed list targets forgets legal b left [] at are ends =
    let none : left * d.samples ≡ 0 = (let zero_left : left ≡ 0 = omega (arith, are) in ap (λ z. z * d.samples) zero_left ∙ omega arith) in
    ap (sum_after d (miss d targets) list at (b * d.samples)) none
segments-sum d blocks fixed list targets forgets legal b left (count ∷ counts) at are ends =
    let end = segments-end fixed (b + count) counts blocks are.2 in
    let next = state_after d list at (b * d.samples) (count * d.samples) in
    let samples : left * d.samples ≡ count * d.samples + (left - count) * d.samples =
    (let parts : left ≡ count + (left - count) = omega arith in ap (λ z. z * d.samples) parts ∙ omega arith) in
    let split = sum-split d (miss d targets) list at (b * d.samples) (count * d.samples) ((left - count) * d.samples) ((b + count) * d.samples) (omega arith) in
    let here = segment-sum d blocks fixed list targets b count at forgets legal end are.1 in
    let later = segments-sum d blocks fixed list targets forgets legal (b + count) (left - count) counts next are.2 (omega arith) in
    let all = ap (sum_after d (miss d targets) list at (b * d.samples)) samples in
    omega (arith, all, split, here, later)

-- and so are the floors
pub segments-floor : (r : Rules) (blocks : ℕ) (fixed : ℕ → Bool) (targets : List ℤ) (b left : ℕ) (counts : List ℕ) → AreSegments fixed b counts blocks → b + left ≡ blocks
    → floors_from r fixed targets b left ≡ segment_floors r targets b counts
segments-floor r blocks fixed targets b left [] are ends = let none : left ≡ 0 = omega (arith, are) in ap (floors_from r fixed targets b) none
segments-floor r blocks fixed targets b left (count ∷ counts) are ends =
    let end = segments-end fixed (b + count) counts blocks are.2 in
    let parts : left ≡ count + (left - count) = omega arith in
    let split = sum_range-add (block_floor r fixed targets) b count (left - count) (b + count) refl in
    let here = part-floors r fixed targets b count are.1 in
    let later = segments-floor r blocks fixed targets (b + count) (left - count) counts are.2 (omega arith) in
    let all = ap (floors_from r fixed targets b) parts in
    omega (arith, all, split, here, later)
