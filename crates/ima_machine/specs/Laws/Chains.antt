-- The chain floor step by step: what it is at a place, and how large.
use Rattle.std.proofs.Common.{◌≡◌, ◌≢◌, ℕ, zero, suc, ◌+◌, ◌-◌, ◌*◌, ◌%◌, ◌^◌, ◌<◌, ◌≤◌, arith, refl, ◌∙◌, sym, subst, inl, inr, ◌⊎◌, length}
use Rattle.std.specs.Prelude.{ℤ, pos, ◌==◌, List}
use Rattle.std.proofs.lemmas.Int.{ints}
use Rattle.std.proofs.lemmas.Bool.{cases_lt, cond-true, cond-false, eq-eqb, ne_eqb, cond_both}
use Rattle.std.proofs.lemmas.List.{get_or_past}
use Rattle.adpcm_nums.specs.Sample.{IsSample, AreSamples}
use Rattle.adpcm_nums.specs.LeastValue.{least}
use Rattle.machine_core.specs.Floors.{top}
use Rattle.adpcm_nums.proofs.LeastValueLaws.{least-below}
use Rattle.machine_core.proofs.Places.{not-first}
use Rattle.ima_machine.specs.Steps.{next_index}
use Rattle.ima_machine.specs.Floors.{target_at, pair_floor, owed, chain, open_chain, ima_floor}
use Rattle.ima_machine.specs.Laws.Pairs.{pair_small}

no-sample : IsSample (pos 0)
no-sample = record { low = omega (arith, ints); high = omega (arith, ints) }

pub target-sample : (targets : List ℤ) (p : ℕ) → AreSamples targets → IsSample (target_at targets p)
target-sample targets p all =
    elim (cases_lt p (length targets)) [
      | inl within ↦ all p (pos 0) within
      | inr past ↦ subst IsSample (sym (get_or_past targets p (pos 0) past)) no-sample
    ]

-- the chain, step by step
pub chain-end : (targets : List ℤ) (p index : ℕ) → chain targets 0 p index ≡ 0
unfolding chain
chain-end targets p index = refl

pub chain-step : (targets : List ℤ) (n p index : ℕ) → chain targets (suc n) p index ≡ least 16 (λ code. owed targets p index code + chain targets n (p + 1) (next_index index code)) top
unfolding chain
chain-step targets n p index = refl

pub open-step : (targets : List ℤ) (n p index : ℕ) → open_chain targets (suc n) p index ≡ least 16 (λ code. chain targets n (p + 1) (next_index index code)) top
unfolding open_chain
open-step targets n p index = refl

-- no code goes on at less
pub chain-below : (targets : List ℤ) (n p index code : ℕ) → code < 16 → chain targets (suc n) p index ≤ owed targets p index code + chain targets n (p + 1) (next_index index code)
chain-below targets n p index code fits =
    let below = least-below 16 (λ c. owed targets p index c + chain targets n (p + 1) (next_index index c)) top code fits in omega (arith, below, chain-step targets n p index)

pub open-below : (targets : List ℤ) (n p index code : ℕ) → code < 16 → open_chain targets (suc n) p index ≤ chain targets n (p + 1) (next_index index code)
open-below targets n p index code fits =
    let below = least-below 16 (λ c. chain targets n (p + 1) (next_index index c)) top code fits in omega (arith, below, open-step targets n p index)

-- sizes
owed-small : (targets : List ℤ) (p index code : ℕ) → AreSamples targets → owed targets p index code ≤ 2 ^ 32
unfolding owed
owed-small targets p index code all =
    cond_both (p % 2 == 1) (pair_floor (target_at targets (p - 1)) (target_at targets p) index code) 0 (λ n. n ≤ 2 ^ 32)
    (λ _. pair_small (target_at targets (p - 1)) (target_at targets p) index code (target-sample targets p all)) (λ _. omega arith)

pub chain-small : (targets : List ℤ) (n p index : ℕ) → AreSamples targets → chain targets n p index ≤ n * 2 ^ 32
chain-small targets zero p index all = omega (arith, chain-end targets p index)
chain-small targets (suc n) p index all =
    let here = chain-below targets n p index 0 (omega arith) in
    let own = owed-small targets p index 0 all in
    let later = chain-small targets n (p + 1) (next_index index 0) all in
    omega arith

pub open-small : (targets : List ℤ) (n p index : ℕ) → AreSamples targets → open_chain targets n p index ≤ n * 2 ^ 32
unfolding open_chain
open-small targets zero p index all = omega arith
open-small targets (suc n) p index all =
    let here = open-below targets n p index 0 (omega arith) in
    let later = chain-small targets n (p + 1) (next_index index 0) all in
    omega (arith, here, later)

pub odd-or-even : (p : ℕ) → (p % 2 ≡ 1) ⊎ (p % 2 ≡ 0)
odd-or-even p = grind arith

pub owed-odd : (targets : List ℤ) (p index code : ℕ) → p % 2 ≡ 1 → owed targets p index code ≡ pair_floor (target_at targets (p - 1)) (target_at targets p) index code
unfolding owed
owed-odd targets p index code e = cond-true _ _ _ (eq-eqb _ _ e)

pub owed-even : (targets : List ℤ) (p index code : ℕ) → p % 2 ≡ 0 → owed targets p index code ≡ 0
unfolding owed
owed-even targets p index code e = let ne : p % 2 ≢ 1 = λ h. omega arith in cond-false _ _ _ (ne_eqb _ _ ne)

pub floor-first : (samples head index : ℕ) (targets : List ℤ) → ima_floor samples head 0 index targets ≡ chain targets (samples - 1) 1 head
unfolding ima_floor
floor-first samples head index targets = refl

pub floor-later : (samples head p index : ℕ) (targets : List ℤ) → 0 < p → ima_floor samples head p index targets ≡ open_chain targets (samples - p) p index
unfolding ima_floor
floor-later samples head p index targets later = cond-false _ _ _ (not-first p later)

pub same-floor : (samples g h p index : ℕ) (targets : List ℤ) → 0 < p → ima_floor samples g p index targets ≡ ima_floor samples h p index targets
same-floor samples g h p index targets later = floor-later samples g p index targets later ∙ sym (floor-later samples h p index targets later)

pub floor-small : (samples head p index : ℕ) (targets : List ℤ) → samples ≤ 4095 → AreSamples targets → ima_floor samples head p index targets ≤ samples * 2 ^ 36
floor-small samples head zero index targets few all =
    let small = chain-small targets (samples - 1) 1 head all in omega (arith, small, floor-first samples head index targets)
floor-small samples head (suc p) index targets few all =
    let small = open-small targets (samples - suc p) (suc p) index all in omega (arith, small, floor-later samples head (suc p) index targets (omega arith))
