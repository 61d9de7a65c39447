-- A row of the chain's floors, from the row of the place after.
use Rattle.std.proofs.Common.{◌≡◌, ◌≢◌, ℕ, suc, ◌+◌, ◌-◌, ◌*◌, ◌%◌, ◌^◌, ◌<◌, ◌≤◌, List, length, set, get_or, arith, ap, sym, ◌∙◌, subst, inl, inr, ◌⊎◌, min}
use Rattle.std.specs.Prelude.{ℤ}
use Rattle.std.proofs.lemmas.Bool.{cases_lt}
use Rattle.std.proofs.lemmas.List.{get_or-set_other, get_or-set_same, length-set}
use Rattle.adpcm_nums.specs.Sample.{AreSamples}
use Rattle.machine_core.specs.declared.state.HeadRule.{HeadRule}
use Rattle.adpcm_nums.specs.LeastValue.{least}
use Rattle.machine_core.specs.Floors.{top, allowed_floor}
use Rattle.adpcm_nums.proofs.LeastValueLaws.{least_more, least-same}
use Rattle.ima_machine.specs.ImaRules.{ima_rules}
use Rattle.ima_machine.specs.Steps.{next_index}
use Rattle.ima_machine.specs.Floors.{target_at, pair_floor, owed, chain, open_chain, ima_floor}
use Rattle.ima_machine.specs.Rows.{ahead_of, paid_ahead, HoldsRow, HoldsTable}
use Rattle.ima_machine.specs.Laws.Stepping.{index-fits}
use Rattle.ima_machine.specs.Laws.Chains.{chain-step, open-step, chain-end, chain-small, owed-odd, owed-even, floor-first, floor-later}

ahead-is : (targets : List ℤ) (n p index code : ℕ) (ahead : List ℕ) → index < 89 → HoldsRow targets n p ahead → ahead_of ahead index code ≡ chain targets n p (next_index index code)
ahead-is targets n p index code ahead fits holds = holds.holds (next_index index code) (index-fits index code fits)

-- at a place that ends a pair
pub row-odd : (targets : List ℤ) (left n p index v : ℕ) (before here : ℤ) (ahead : List ℕ) → left ≡ suc n → index < 89 → p % 2 ≡ 1 → HoldsRow targets n (p + 1) ahead
    → before ≡ target_at targets (p - 1) → here ≡ target_at targets p → v ≡ least 16 (paid_ahead before here ahead index) top → v ≡ chain targets left p index
row-odd targets left n p index v before here ahead count fits odd holds b h is =
    let each : (code : ℕ) → paid_ahead before here ahead index code ≡ owed targets p index code + chain targets n (p + 1) (next_index index code) = λ code.
    (let own = owed-odd targets p index code odd in
    let pair : pair_floor before here index code ≡ pair_floor (target_at targets (p - 1)) (target_at targets p) index code = ap (λ x. pair_floor x here index code) b ∙ ap (λ x. pair_floor (target_at targets (p - 1)) x index code) h in
    let later = ahead-is targets n (p + 1) index code ahead fits holds in omega (arith, own, pair, later)) in
    is ∙ least-same 16 _ _ top each ∙ sym (chain-step targets n p index) ∙ ap (λ m. chain targets m p index) (sym count)

-- and at one that does not
pub row-even : (targets : List ℤ) (left n p index v : ℕ) (ahead : List ℕ) → left ≡ suc n → index < 89 → p % 2 ≡ 0 → HoldsRow targets n (p + 1) ahead
    → v ≡ least 16 (ahead_of ahead index) top → v ≡ chain targets left p index
row-even targets left n p index v ahead count fits even holds is =
    let each : (code : ℕ) → ahead_of ahead index code ≡ owed targets p index code + chain targets n (p + 1) (next_index index code) = λ code.
    (let own = owed-even targets p index code even in
    let later = ahead-is targets n (p + 1) index code ahead fits holds in omega (arith, own, later)) in
    is ∙ least-same 16 _ _ top each ∙ sym (chain-step targets n p index) ∙ ap (λ m. chain targets m p index) (sym count)

-- what the table says at a place is the same without the pair that ends there
pub row-open : (targets : List ℤ) (samples n p index v : ℕ) (ahead : List ℕ) → samples - p ≡ suc n → 0 < p → index < 89 → HoldsRow targets n (p + 1) ahead
    → v ≡ least 16 (ahead_of ahead index) top → v ≡ ima_floor samples index p index targets
row-open targets samples n p index v ahead count later fits holds is =
    is ∙ least-same 16 _ _ top (λ code. ahead-is targets n (p + 1) index code ahead fits holds) ∙ sym (open-step targets n p index)
    ∙ ap (λ m. open_chain targets m p index) (sym count) ∙ sym (floor-later samples index p index targets later)

-- rows are small
pub row-small : (targets : List ℤ) (n p : ℕ) (row : List ℕ) → HoldsRow targets n p row → AreSamples targets → n ≤ 4095 → (i : ℕ) → i < 89 → get_or row i 0 ≤ 2 ^ 60
row-small targets n p row holds all few i fits = let small = chain-small targets n p i all in omega (arith, small, holds.holds i fits)

-- the row behind the last place
pub row-end : (targets : List ℤ) (n p : ℕ) (row : List ℕ) → n ≡ 0 → length row ≡ 89 → ((i : ℕ) → i < 89 → get_or row i 0 ≡ 0) → HoldsRow targets n p row
row-end targets n p row none size zeros = record {
  size = size;
  holds = λ i fits. zeros i fits ∙ sym (ap (λ m. chain targets m p i) none ∙ chain-end targets p i);
}

-- one more number of a row
pub row-more : (targets : List ℤ) (n p index v : ℕ) (row : List ℕ) → length row ≡ 89 → index < 89 → v ≡ chain targets n p index
    → ((i : ℕ) → i < index → get_or row i 0 ≡ chain targets n p i) → (i : ℕ) → i < index + 1 → get_or (set row index v) i 0 ≡ chain targets n p i
row-more targets n p index v row size fits is front i within =
    elim (cases_lt i index) [
      | inl before ↦ (let other : i ≢ index = omega arith in get_or-set_other row index i v 0 other ∙ front i before)
      | inr behind ↦ (let here : index ≡ i = omega arith in
          subst (λ (k : ℕ). get_or (set row index v) k 0 ≡ chain targets n p k) here (get_or-set_same row index v 0 (omega arith) ∙ is))
    ]

-- a write before a place keeps what the table says from there on
pub table-kept : (samples : ℕ) (targets : List ℤ) (from place v : ℕ) (table : List ℕ) → place < 89 * from → HoldsTable samples targets from table → HoldsTable samples targets from (set table place v)
table-kept samples targets from place v table before holds = record {
  size = length-set table place v ∙ holds.size;
  holds = λ p index after within fits. (let other : 89 * p + index ≢ place = omega arith in get_or-set_other table place (89 * p + index) v 0 other ∙ holds.holds p index after within fits);
}

-- one more number of a place
pub place-more : (samples p index v at : ℕ) (targets : List ℤ) (table : List ℕ) → at ≡ 89 * p + index → length table ≡ 89 * samples → p < samples → index < 89 → v ≡ ima_floor samples index p index targets
    → ((i : ℕ) → i < index → get_or table (89 * p + i) 0 ≡ ima_floor samples i p i targets) → (i : ℕ) → i < index + 1 → get_or (set table at v) (89 * p + i) 0 ≡ ima_floor samples i p i targets
place-more samples p index v place targets table e size within fits is front i below =
    elim (cases_lt i index) [
      | inl before ↦ (let other : 89 * p + i ≢ place = omega arith in get_or-set_other table place (89 * p + i) v 0 other ∙ front i before)
      | inr behind ↦ (
          let here : index ≡ i = omega arith in
          let same : place ≡ 89 * p + i = omega arith in
          subst (λ (k : ℕ). get_or (set table place v) k 0 ≡ ima_floor samples i p i targets) same
          (get_or-set_same table place v 0 (omega arith) ∙ is ∙ ap (λ k. ima_floor samples k p k targets) here))
    ]

at-or-above : (p q : ℕ) → p ≤ q → (p ≡ q) ⊎ (p + 1 ≤ q)
at-or-above p q h = grind arith

-- a place whose numbers are all there
pub place-filled : (samples p next : ℕ) (targets : List ℤ) (table : List ℕ) → next ≡ p + 1 → HoldsTable samples targets next table
    → ((i : ℕ) → i < 89 → get_or table (89 * p + i) 0 ≡ ima_floor samples i p i targets) → HoldsTable samples targets p table
place-filled samples p next targets table e holds here = record {
  size = holds.size;
  holds = λ q index after within fits. elim (at-or-above p q after) [
    | inl same ↦ subst (λ (k : ℕ). get_or table (89 * k + index) 0 ≡ ima_floor samples index k index targets) same (here index fits)
    | inr later ↦ holds.holds q index (omega arith) within fits
  ];
}

-- behind the last place nothing is claimed
pub table-none : (samples : ℕ) (targets : List ℤ) (table : List ℕ) → length table ≡ 89 * samples → HoldsTable samples targets samples table
table-none samples targets table size = record { size = size; holds = λ p index after within fits. absurd (omega arith) }

-- at the first place
pub first-more : (samples n p index v : ℕ) (targets : List ℤ) (row table : List ℕ) → n ≡ samples - 1 → p ≡ 1 → HoldsRow targets n p row → v ≡ get_or row index 0 → length table ≡ 89 * samples → 0 < samples → index < 89
    → ((i : ℕ) → i < index → get_or table i 0 ≡ ima_floor samples i 0 i targets) → (i : ℕ) → i < index + 1 → get_or (set table index v) i 0 ≡ ima_floor samples i 0 i targets
first-more samples n p index v targets row table e one holds is size some fits front i below =
    elim (cases_lt i index) [
      | inl before ↦ (let other : i ≢ index = omega arith in get_or-set_other table index i v 0 other ∙ front i before)
      | inr behind ↦ (
          let here : index ≡ i = omega arith in
          subst (λ (k : ℕ). get_or (set table index v) k 0 ≡ ima_floor samples k 0 k targets) here
          (get_or-set_same table index v 0 (omega arith) ∙ is ∙ holds.holds index fits ∙ ap (λ m. chain targets m p index) e ∙ ap (λ q. chain targets (samples - 1) q index) one ∙ sym (floor-first samples index index targets)))
    ]

pub first-filled : (samples next : ℕ) (targets : List ℤ) (table : List ℕ) → next ≡ 1 → HoldsTable samples targets next table
    → ((i : ℕ) → i < 89 → get_or table i 0 ≡ ima_floor samples i 0 i targets) → HoldsTable samples targets 0 table
first-filled samples next targets table e holds here = place-filled samples 0 next targets table (omega arith) holds
    (λ i fits. (let same : i ≡ 89 * 0 + i = omega arith in subst (λ (k : ℕ). get_or table k 0 ≡ ima_floor samples i 0 i targets) same (here i fits)))

-- one more head of a block
pub least-row-more : (samples n index best v : ℕ) (rule : HeadRule) (targets : List ℤ) (row : List ℕ) → n ≡ samples - 1 → HoldsRow targets n 1 row → index < 89 → v ≡ get_or row index 0
    → best ≡ least index (allowed_floor (ima_rules samples) rule targets) top → min best v ≡ least (index + 1) (allowed_floor (ima_rules samples) rule targets) top
least-row-more samples n index best v rule targets row e holds fits is so_far =
    let here : v ≡ allowed_floor (ima_rules samples) rule targets index =
    is ∙ holds.holds index fits ∙ ap (λ m. chain targets m 1 index) e ∙ sym (floor-first samples index 0 targets) in
    least_more index (allowed_floor (ima_rules samples) rule targets) top best v so_far here
