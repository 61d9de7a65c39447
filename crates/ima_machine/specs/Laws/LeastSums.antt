-- The chain floor is the least sum over all lists of codes.
use Rattle.std.proofs.Common.{◌≡◌, ◌≢◌, ℕ, zero, suc, ◌+◌, ◌-◌, ◌<◌, ◌≤◌, arith, refl, ap, ◌∙◌, sym, subst, inl, inr}
use Rattle.std.specs.Prelude.{ℤ, ◌==◌, List, if◌then◌else◌}
use Rattle.std.proofs.lemmas.Bool.{cond-true, cond-false, eq-eqb, ne_eqb, cond_both}
use Rattle.adpcm_nums.specs.Sample.{AreSamples}
use Rattle.machine_core.specs.Floors.{top}
use Rattle.adpcm_nums.proofs.LeastValueLaws.{least-reached}
use Rattle.machine_core.proofs.Places.{not-first}
use Rattle.ima_machine.specs.Steps.{next_index}
use Rattle.ima_machine.specs.Floors.{owed, path_sum, open_sum, floor_sum, chain, open_chain, ima_floor}
use Rattle.ima_machine.specs.Laws.Chains.{chain-end, chain-step, open-step, chain-below, open-below, chain-small, open-small, floor-first, floor-later}

-- no list of codes has a lower sum
pub paths-above : (targets : List ℤ) (code : ℕ → ℕ) (n p index : ℕ) → ((q : ℕ) → code q < 16) → chain targets n p index ≤ path_sum targets code n p index
paths-above targets code zero p index fits = omega (arith, chain-end targets p index)
paths-above targets code (suc n) p index fits =
    let later = paths-above targets code n (p + 1) (next_index index (code p)) fits in
    let here = chain-below targets n p index (code p) (fits p) in
    omega arith

-- codes that are alike from place p on have the same sum
path-same : (targets : List ℤ) (c d : ℕ → ℕ) (n p index : ℕ) → ((q : ℕ) → p ≤ q → c q ≡ d q) → path_sum targets c n p index ≡ path_sum targets d n p index
path-same targets c d zero p index e = refl
path-same targets c d (suc n) p index e =
    ap (λ k. owed targets p index k + path_sum targets c n (p + 1) (next_index index k)) (e p (omega arith))
    ∙ ap (λ m. owed targets p index (d p) + m) (path-same targets c d n (p + 1) (next_index index (d p)) (λ q h. e q (omega arith)))

-- one code, then others
abbrev then_codes : ℕ → ℕ → (ℕ → ℕ) → ℕ → ℕ
then_codes p k codes q = if q == p then k else codes q

then-here : (p k : ℕ) (codes : ℕ → ℕ) → then_codes p k codes p ≡ k
then-here p k codes = cond-true _ _ _ (eq-eqb p p refl)

then-later : (p k : ℕ) (codes : ℕ → ℕ) (q : ℕ) → p + 1 ≤ q → then_codes p k codes q ≡ codes q
then-later p k codes q h = let ne : q ≢ p = omega arith in cond-false _ _ _ (ne_eqb q p ne)

then-fits : (p k : ℕ) (codes : ℕ → ℕ) (q : ℕ) → k < 16 → ((r : ℕ) → codes r < 16) → then_codes p k codes q < 16
then-fits p k codes q h fits = cond_both (q == p) k (codes q) (λ n. n < 16) (λ _. h) (λ _. fits q)

-- some codes have the chain's sum
pub record Reaches (targets : List ℤ) (n p index sum : ℕ) : Type 0 where
  pub codes : ℕ → ℕ
  pub fit : (q : ℕ) → codes q < 16
  pub reached : sum ≡ path_sum targets codes n p index

reach-more : (targets : List ℤ) (n p index k : ℕ) → k < 16 → Reaches targets n (p + 1) (next_index index k) (chain targets n (p + 1) (next_index index k))
    → Reaches targets (suc n) p index (owed targets p index k + chain targets n (p + 1) (next_index index k))
reach-more targets n p index k small rest =
    let codes = then_codes p k rest.codes in
    let same = path-same targets codes rest.codes n (p + 1) (next_index index k) (then-later p k rest.codes) in
    let here : path_sum targets codes (suc n) p index ≡ owed targets p index k + path_sum targets codes n (p + 1) (next_index index k) =
    ap (λ c. owed targets p index c + path_sum targets codes n (p + 1) (next_index index c)) (then-here p k rest.codes) in record {
      codes = codes;
      fit = λ q. then-fits p k rest.codes q small rest.fit;
      reached = let e = rest.reached in omega (arith, same, here, e);
    }

pub chain-reached : (targets : List ℤ) (n p index : ℕ) → AreSamples targets → n ≤ 4095 → Reaches targets n p index (chain targets n p index)
chain-reached targets zero p index all few = record { codes = λ q. 0; fit = λ q. omega arith; reached = chain-end targets p index }
chain-reached targets (suc n) p index all few =
    let small = chain-small targets (suc n) p index all in
    elim (least-reached 16 (λ code. owed targets p index code + chain targets n (p + 1) (next_index index code)) top) [
      | inl none ↦ absurd (omega (arith, none, small, chain-step targets n p index))
      | inr found ↦ subst (Reaches targets (suc n) p index) (sym (chain-step targets n p index ∙ found.2))
          (reach-more targets n p index found.0 found.1 (chain-reached targets n (p + 1) (next_index index found.0) all (omega arith)))
    ]

open-above : (targets : List ℤ) (code : ℕ → ℕ) (n p index : ℕ) → ((q : ℕ) → code q < 16) → open_chain targets n p index ≤ open_sum targets code n p index
unfolding open_chain
open-above targets code zero p index fits = omega arith
open-above targets code (suc n) p index fits =
    let later = paths-above targets code n (p + 1) (next_index index (code p)) fits in
    let here = open-below targets n p index (code p) (fits p) in
    omega (arith, later, here)

-- the floor is at most the sum over any codes
pub sums-above : (samples head p index : ℕ) (targets : List ℤ) (code : ℕ → ℕ) → ((q : ℕ) → code q < 16) → ima_floor samples head p index targets ≤ floor_sum samples head p index targets code
sums-above samples head zero index targets code fits = let h = paths-above targets code (samples - 1) 1 head fits in omega (arith, h, floor-first samples head index targets)
sums-above samples head (suc p) index targets code fits =
    let h = open-above targets code (samples - suc p) (suc p) index fits in
    let e : floor_sum samples head (suc p) index targets code ≡ open_sum targets code (samples - suc p) (suc p) index = cond-false _ _ _ (not-first (suc p) (omega arith)) in
    omega (arith, h, e, floor-later samples head (suc p) index targets (omega arith))

open-reached : (targets : List ℤ) (n p index : ℕ) → AreSamples targets → n ≤ 4095 → (code : ℕ → ℕ) × ((q : ℕ) → code q < 16) × (open_chain targets n p index ≡ open_sum targets code n p index)
unfolding open_chain
open-reached targets zero p index all few = (λ q. 0, λ q. omega arith, refl)
open-reached targets (suc n) p index all few =
    let small = open-small targets (suc n) p index all in
    elim (least-reached 16 (λ code. chain targets n (p + 1) (next_index index code)) top) [
      | inl none ↦ absurd (omega (arith, none, small, open-step targets n p index))
      | inr found ↦ (
          let rest = chain-reached targets n (p + 1) (next_index index found.0) all (omega arith) in
          let codes = then_codes p found.0 rest.codes in
          let same = path-same targets codes rest.codes n (p + 1) (next_index index found.0) (then-later p found.0 rest.codes) in
          let here : open_sum targets codes (suc n) p index ≡ path_sum targets codes n (p + 1) (next_index index found.0) =
          ap (λ c. path_sum targets codes n (p + 1) (next_index index c)) (then-here p found.0 rest.codes) in
          (codes, λ q. then-fits p found.0 rest.codes q found.1 rest.fit, open-step targets n p index ∙ found.2 ∙ rest.reached ∙ sym same ∙ sym here))
    ]

-- and is that sum over some
pub sums-reached : (samples head p index : ℕ) (targets : List ℤ) → samples ≤ 4095 → AreSamples targets → (code : ℕ → ℕ) × ((q : ℕ) → code q < 16) × (ima_floor samples head p index targets ≡ floor_sum samples head p index targets code)
sums-reached samples head zero index targets few all =
    let found = chain-reached targets (samples - 1) 1 head all (omega arith) in (found.codes, found.fit, floor-first samples head index targets ∙ found.reached)
sums-reached samples head (suc p) index targets few all =
    let found = open-reached targets (samples - suc p) (suc p) index all (omega arith) in
    let e : floor_sum samples head (suc p) index targets found.0 ≡ open_sum targets found.0 (samples - suc p) (suc p) index = cond-false _ _ _ (not-first (suc p) (omega arith)) in
    (found.0, found.1, floor-later samples head (suc p) index targets (omega arith) ∙ found.2 ∙ sym e)
