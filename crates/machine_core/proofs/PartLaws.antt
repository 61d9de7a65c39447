-- A segment of a list is a list of its own, and costs in the whole what it costs alone.
use Rattle.std.proofs.Common.{◌≡◌, ℕ, zero, suc, ◌+◌, ◌*◌, ◌/◌, ◌%◌, ◌<◌, ◌≤◌, arith, refl, ap, sym, ◌∙◌, subst, true, IsTrue, ℤ, pos, List, get_or, Some, ◌==◌, ◌||◌, false, Bool, if◌then◌else◌}
use Rattle.std.specs.Prelude.{◌*ℤ◌, ◌-ℤ◌}
use Rattle.std.proofs.lemmas.Bool.{ne_eqb, eq-eqb}
use Rattle.std.proofs.Math.Bool.{or-false, or-true}
use Rattle.std.proofs.Math.Nat.{mul-add-div_right, mul-le-mul_right}
use Rattle.std.proofs.lemmas.Nat.{div-add-mod'}
use Rattle.adpcm_nums.specs.Nums.{square_of}
use Rattle.machine_core.specs.declared.state.State.{State}
use Rattle.machine_core.specs.declared.state.HeadRule.{HeadRule}
use Rattle.machine_core.specs.declared.state.HeadRule.TheVariants.{AnyHead, FilterZero}
use Rattle.machine_core.specs.Decoder.{Decoder, Forgets, start, miss}
use Rattle.machine_core.specs.Blocks.{Blocks, IsInRange, IsLegal, is_first, head_at, symbol_at, step_at, state_at, output_at, rule_of, first_only}
use Rattle.machine_core.specs.Sums.{sum_after, sum_of}
use Rattle.machine_core.specs.Segments.{part_of, part_targets, IsSegment}
use Rattle.machine_core.proofs.Places.{block-below}
use Rattle.machine_core.proofs.Lists.{get_or-part, length-part}
use Rattle.machine_core.proofs.Histories.{outputs-forget}

-- a sample of a part stands in the whole so many blocks on
moved-block : (n b j : ℕ) → 0 < n → (b * n + j) / n ≡ b + j / n
moved-block n b j some = mul-add-div_right some b j

-- and at the same place of its block
pub moved-place : (n b j : ℕ) → 0 < n → (b * n + j) % n ≡ j % n
moved-place n b j some =
    let block : (b * n + j) / n * n ≡ (b + j / n) * n = ap (λ z. z * n) (moved-block n b j some) in
    omega (arith, div-add-mod' (b * n + j) n, div-add-mod' j n)

part-head : (d : Decoder) (list : Blocks) (b count j : ℕ) → 0 < d.samples → j < count * d.samples → head_at d (part_of d list b count) j ≡ head_at d list (b * d.samples + j)
part-head d list b count j some within =
    get_or-part list.heads b count (j / d.samples) 0 (block-below j d.samples count within) ∙ ap (λ z. get_or list.heads z 0) (sym (moved-block d.samples b j some))

part-symbol : (d : Decoder) (list : Blocks) (b count j : ℕ) → j < count * d.samples → symbol_at (part_of d list b count) j ≡ symbol_at list (b * d.samples + j)
part-symbol d list b count j within = get_or-part list.symbols (b * d.samples) (count * d.samples) j 0 within

-- so it steps as the whole does
part-step : (d : Decoder) (list : Blocks) (b count j i : ℕ) (at : State) → 0 < d.samples → j < count * d.samples → i ≡ b * d.samples + j
    → step_at d (part_of d list b count) j at ≡ step_at d list i at
part-step d list b count j i at some within e =
    let head = part-head d list b count j some within in
    let symbol = part-symbol d list b count j within in
    let place = moved-place d.samples b j some in
    cc

-- from one state both cost the same
part-sum : (d : Decoder) (list : Blocks) (targets : List ℤ) (b count : ℕ) → 0 < d.samples → (j n i : ℕ) (at : State) → i ≡ b * d.samples + j → j + n ≤ count * d.samples
    → sum_after d (miss d (part_targets d targets b count)) (part_of d list b count) at j n ≡ sum_after d (miss d targets) list at i n
part-sum d list targets b count some j zero i at e within = refl
part-sum d list targets b count some j (suc n) i at e within =
    let step = part-step d list b count j i at some (omega arith) e in
    let target = get_or-part targets (b * d.samples) (count * d.samples) j (pos 0) (omega arith) in
    let later = part-sum d list targets b count some (suc j) n (suc i) (step_at d list i at) (omega arith) (omega arith) in
    cc

-- states that sound the same from sample i on cost the same from there on
same-sums : (d : Decoder) (list : Blocks) (targets : List ℤ) (s t : State) (i n : ℕ) → ((k : ℕ) → i ≤ k → output_at d list s k ≡ output_at d list t k)
    → sum_after d (miss d targets) list (state_at d list s i) i n ≡ sum_after d (miss d targets) list (state_at d list t i) i n
same-sums d list targets s t i zero same = refl
same-sums d list targets s t i (suc n) same =
    let cost : ℤ → ℕ = λ y. square_of (pos d.scale *ℤ y -ℤ get_or targets i (pos 0)) in
    let here : miss d targets i (state_at d list s (suc i)) ≡ miss d targets i (state_at d list t (suc i)) = ap cost (same i (omega arith)) in
    let later = same-sums d list targets s t (suc i) n (λ k from. same k (omega arith)) in
    omega (arith, here, later)

-- the rule by its test
by-test : Bool → HeadRule
by-test must = if must then FilterZero else AnyHead

-- the rule of a segment's block alone is its rule in the whole
pub segment-rule : (fixed : ℕ → Bool) (b count k : ℕ) → IsSegment fixed b count → k < count → rule_of fixed (b + k) ≡ rule_of first_only k
unfolding by-test
segment-rule fixed b count k segment below = ap by-test (segment k below)

-- the first block of a segment forgets
first-forgets : (d : Decoder) (blocks : ℕ) (fixed : ℕ → Bool) (list : Blocks) (b count : ℕ) → IsLegal d blocks fixed list → b + suc count ≤ blocks → IsSegment fixed b (suc count)
    → d.allows (get_or list.heads b 0) FilterZero ≡ true
first-forgets d blocks fixed list b count legal within segment =
    let first : b + 0 ≡ b = omega arith in
    let rule : rule_of fixed b ≡ FilterZero = ap (rule_of fixed) (sym first) ∙ segment-rule fixed b (suc count) 0 segment (omega arith) in
    ap (d.allows (get_or list.heads b 0)) (sym rule) ∙ legal.obeys.allowed b (omega arith)

-- a segment costs alone what it costs in the whole, from whatever state the whole comes to it
pub segment-sum : (d : Decoder) (blocks : ℕ) (fixed : ℕ → Bool) (list : Blocks) (targets : List ℤ) (b count : ℕ) (at : State) → Forgets d → IsLegal d blocks fixed list
    → b + count ≤ blocks → IsSegment fixed b count
    → sum_of d (part_of d list b count) (part_targets d targets b count) count ≡ sum_after d (miss d targets) list at (b * d.samples) (count * d.samples)
segment-sum d blocks fixed list targets b zero at forgets legal within segment =
    let none : zero * d.samples ≡ 0 = omega arith in
    ap (sum_after d (miss d (part_targets d targets b zero)) (part_of d list b zero) start 0) none ∙ sym (ap (sum_after d (miss d targets) list at (b * d.samples)) none)
segment-sum d blocks fixed list targets b (suc count) at forgets legal within segment =
    let part = part_of d list b (suc count) in
    let first : b + 0 ≡ b = omega arith in
    let head : get_or part.heads 0 0 ≡ get_or list.heads b 0 = get_or-part list.heads b (suc count) 0 0 (omega arith) ∙ ap (λ z. get_or list.heads z 0) first in
    let allowed : d.allows (get_or part.heads 0 0) FilterZero ≡ true = ap (λ z. d.allows z FilterZero) head ∙ first-forgets d blocks fixed list b count legal within segment in
    same-sums d part (part_targets d targets b (suc count)) start at 0 (suc count * d.samples) (λ k from. outputs-forget d part 0 start at k forgets allowed (omega arith))
    ∙ part-sum d list targets b (suc count) forgets.some_samples 0 (suc count * d.samples) (b * d.samples) at (omega arith) (omega arith)

-- what is in range stays so in a part
pub part-in-range : (d : Decoder) (blocks : ℕ) (list : Blocks) (b count : ℕ) → 0 < d.samples → IsInRange d blocks list → b + count ≤ blocks → IsInRange d count (part_of d list b count)
part-in-range d blocks list b count some fits within =
    let samples : (b + count) * d.samples ≤ blocks * d.samples = mul-le-mul_right d.samples within in record {
      head_count = length-part list.heads b count (omega (arith, fits.head_count));
      symbol_count = length-part list.symbols (b * d.samples) (count * d.samples) (omega (arith, fits.symbol_count));
      heads_fit = λ k below. subst (λ (z : ℕ). z < d.heads) (sym (get_or-part list.heads b count k 0 below)) (fits.heads_fit (b + k) (omega arith));
      symbols_fit = λ j below.
          subst (λ (z : ℕ). symbol_at (part_of d list b count) j < d.symbols z) (moved-place d.samples b j some)
          (subst (λ (z : ℕ). z < d.symbols ((b * d.samples + j) % d.samples)) (sym (part-symbol d list b count j below)) (fits.symbols_fit (b * d.samples + j) (omega arith)));
    }

-- a segment of a legal list is legal as a list of its own
pub part-legal : (d : Decoder) (blocks : ℕ) (fixed : ℕ → Bool) (list : Blocks) (b count : ℕ) → 0 < d.samples → IsLegal d blocks fixed list → b + count ≤ blocks → IsSegment fixed b count
    → IsLegal d count first_only (part_of d list b count)
part-legal d blocks fixed list b count some legal within segment = record {
  in_range = part-in-range d blocks list b count some legal.in_range within;
  obeys = record {
    allowed = λ k below.
        subst (λ (z : ℕ). IsTrue (d.allows z (rule_of first_only k))) (sym (get_or-part list.heads b count k 0 below))
        (subst (λ (z : HeadRule). IsTrue (d.allows (get_or list.heads (b + k) 0) z)) (segment-rule fixed b count k segment below) (legal.obeys.allowed (b + k) (omega arith)));
  };
}

-- a block that is allowed in a segment alone is allowed in the whole
pub part-allows : (d : Decoder) (fixed : ℕ → Bool) (list : Blocks) (b count k : ℕ) → IsSegment fixed b count → k < count → IsLegal d count first_only (part_of d list b count)
    → IsTrue (d.allows (get_or list.heads (b + k) 0) (rule_of fixed (b + k)))
part-allows d fixed list b count k segment below alone =
    subst (λ (z : HeadRule). IsTrue (d.allows (get_or list.heads (b + k) 0) z)) (sym (segment-rule fixed b count k segment below))
    (subst (λ (z : ℕ). IsTrue (d.allows z (rule_of first_only k))) (get_or-part list.heads b count k 0 below) (alone.obeys.allowed k below))

-- a sample with no loop is a segment
pub whole-segment : (count : ℕ) → IsSegment first_only 0 count
whole-segment count = λ k below. (let e : 0 + k ≡ k = omega arith in ap first_only e)

-- so are the blocks before the loop
pub front-segment : (loop_block : ℕ) → IsSegment (is_first (Some loop_block)) 0 loop_block
front-segment loop_block = λ k below.
    (let e : 0 + k ≡ k = omega arith in
    let apart : (k == loop_block) ≡ false = ne_eqb k loop_block (omega arith) in
    ap (is_first (Some loop_block)) e ∙ (ap (λ z. k == 0 || z) apart ∙ or-false (k == 0)))

-- and those of the loop
pub loop-segment : (loop_block count : ℕ) → IsSegment (is_first (Some loop_block)) loop_block count
loop-segment loop_block count zero below =
    let same : (loop_block + 0 == loop_block) ≡ true = eq-eqb (loop_block + 0) loop_block (omega arith) in
    ap (λ z. loop_block + 0 == 0 || z) same ∙ or-true (loop_block + 0 == 0)
loop-segment loop_block count (suc k) below =
    let later : (loop_block + suc k == 0) ≡ false = ne_eqb (loop_block + suc k) 0 (omega arith) in
    let apart : (loop_block + suc k == loop_block) ≡ false = ne_eqb (loop_block + suc k) loop_block (omega arith) in
    let second : (suc k == 0) ≡ false = ne_eqb (suc k) 0 (omega arith) in
    ap (λ z. z || loop_block + suc k == loop_block) later ∙ (apart ∙ sym second)

-- where every block must forget, each is a segment of its own
pub each-segment : (fixed : ℕ → Bool) (b : ℕ) → ((k : ℕ) → fixed k ≡ true) → IsSegment fixed b 1
each-segment fixed b all zero below = all (b + 0)
each-segment fixed b all (suc k) below = absurd (omega arith)
