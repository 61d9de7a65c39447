-- The chain floor is below the cost of every continuation.
use Rattle.std.proofs.Common.{◌≡◌, ◌≢◌, ℕ, zero, suc, ◌+◌, ◌-◌, ◌*◌, ◌%◌, ◌<◌, ◌≤◌, arith, ap, subst, inl, inr}
use Rattle.std.specs.Prelude.{ℤ, pos, ◌+ℤ◌, ◌-ℤ◌, ◌*ℤ◌, ◌==◌, List, unsigned_abs, IsTrue, if◌then◌else◌}
use Rattle.std.proofs.lemmas.Bool.{cond-true, cond-false, eq-eqb, ne_eqb}
use Rattle.adpcm_nums.specs.Nums.{square_of, clamp16_of}
use Rattle.adpcm_nums.specs.Sample.{IsSample}
use Rattle.machine_core.specs.declared.state.State.{State}
use Rattle.machine_core.specs.Decoder.{miss}
use Rattle.machine_core.specs.Rules.{tail_cost}
use Rattle.machine_core.proofs.Places.{not-first}
use Rattle.ima_machine.specs.Steps.{difference_of, next_index}
use Rattle.ima_machine.specs.Ima.{ima, ima_step, first_state, later_state, is_ima_state, symbols_at}
use Rattle.ima_machine.specs.Floors.{target_at, owed, chain, open_chain, ima_floor}
use Rattle.ima_machine.specs.Laws.States.{output_of}
use Rattle.ima_machine.specs.Laws.Stepping.{step-first, step-later, step-fits}
use Rattle.ima_machine.specs.Laws.Pairs.{pair-below}
use Rattle.ima_machine.specs.Laws.Chains.{chain-end, chain-below, open-below, odd-or-even, owed-odd, owed-even, floor-first, floor-later}

-- what a place costs
abbrev paid : ℤ → ℤ → ℕ
paid y target = square_of (pos 1 *ℤ y -ℤ target)

-- what the first place of the pair that ends at place p has cost
unfoldable pub carried : List ℤ → ℕ → ℤ → ℕ
carried targets p y = if p % 2 == 1 then paid y (target_at targets (p - 1)) else 0

carried-odd : (targets : List ℤ) (p : ℕ) (y : ℤ) → p % 2 ≡ 1 → carried targets p y ≡ paid y (target_at targets (p - 1))
unfolding carried
carried-odd targets p y e = cond-true _ _ _ (eq-eqb _ _ e)

carried-even : (targets : List ℤ) (p : ℕ) (y : ℤ) → p % 2 ≡ 0 → carried targets p y ≡ 0
unfolding carried
carried-even targets p y e = let ne : p % 2 ≢ 1 = λ h. omega arith in cond-false _ _ _ (ne_eqb _ _ ne)

-- what a place is owed and the next one carries is no more than what this one carries and costs
step-pays : (targets : List ℤ) (p index code : ℕ) (y : ℤ) → IsSample y
    → owed targets p index code + carried targets (p + 1) (clamp16_of (y +ℤ difference_of index code)) ≤ carried targets p y + paid (clamp16_of (y +ℤ difference_of index code)) (target_at targets p)
step-pays targets p index code y sample =
    let z = clamp16_of (y +ℤ difference_of index code) in
    elim (odd-or-even p) [
      | inl odd ↦ (
          let pair = pair-below y (target_at targets (p - 1)) (target_at targets p) index code sample in
          omega (arith, pair, owed-odd targets p index code odd, carried-odd targets p y odd, carried-even targets (p + 1) z (omega arith)))
      | inr even ↦ (
          let place : p + 1 - 1 ≡ p = omega arith in
          let same = ap (λ q. paid z (target_at targets q)) place in
          omega (arith, same, owed-even targets p index code even, carried-even targets p y even, carried-odd targets (p + 1) z (omega arith)))
    ]

carried-below : (targets : List ℤ) (p : ℕ) (y : ℤ) → carried targets (p + 1) y ≤ paid y (target_at targets p)
carried-below targets p y =
    elim (odd-or-even p) [
      | inl odd ↦ omega (arith, carried-even targets (p + 1) y (omega arith))
      | inr even ↦ (
          let place : p + 1 - 1 ≡ p = omega arith in
          let same = ap (λ q. paid y (target_at targets q)) place in
          omega (arith, same, carried-odd targets (p + 1) y (omega arith)))
    ]

-- the state after a code, its output and its index
after-output : (head p code : ℕ) (at : State) → 0 < p → (ima_step head p code at).a ≡ clamp16_of (at.a +ℤ difference_of (unsigned_abs at.b) code)
unfolding later_state
after-output head p code at later = ap (λ (s : State). s.a) (step-later head p code at later)

after-index : (head p code : ℕ) (at : State) → 0 < p → unsigned_abs (ima_step head p code at).b ≡ next_index (unsigned_abs at.b) code
unfolding later_state
after-index head p code at later = ap (λ (s : State). unsigned_abs s.b) (step-later head p code at later)

-- all symbols fit
abbrev Fit : (ℕ → ℕ) → ℕ → Type 0
Fit symbol samples = (q : ℕ) → q < samples → symbol q < symbols_at q

code-fits : (symbol : ℕ → ℕ) (samples p : ℕ) → Fit symbol samples → 0 < p → p < samples → symbol p < 16
code-fits symbol samples p fit later within =
    let few : symbols_at p ≡ 16 = cond-false _ _ _ (not-first p later) in subst (λ (n : ℕ). symbol p < n) few (fit p within)

-- the chain is below what is carried and what every continuation costs
pub chain-true : (samples head : ℕ) (targets : List ℤ) (symbol : ℕ → ℕ) → head < 89 → Fit symbol samples → (n p : ℕ) (at : State) → 0 < p → p + n ≡ samples → IsTrue (is_ima_state at)
    → chain targets n p (unsigned_abs at.b) ≤ carried targets p at.a + tail_cost (ima samples) (miss (ima samples) targets) head symbol p at n
chain-true samples head targets symbol head_fits fit zero p at later ends is = omega (arith, chain-end targets p (unsigned_abs at.b))
chain-true samples head targets symbol head_fits fit (suc n) p at later ends is =
    let index = unsigned_abs at.b in
    let code = symbol p in
    let next = ima_step head p code at in
    let z = clamp16_of (at.a +ℤ difference_of index code) in
    let small = code-fits symbol samples p fit later (omega arith) in
    let ih = chain-true samples head targets symbol head_fits fit n (p + 1) next (omega arith) (omega arith) (step-fits head p code at head_fits (fit p (omega arith)) is) in
    let here = chain-below targets n p index code small in
    let pays = step-pays targets p index code at.a (output_of at is) in
    let output = after-output head p code at later in
    let moved = ap (chain targets n (p + 1)) (after-index head p code at later) in
    let carries = ap (carried targets (p + 1)) output in
    let costs = ap (λ y. paid y (target_at targets p)) output in
    omega (arith, ih, here, pays, moved, carries, costs)

pub open-true : (samples head : ℕ) (targets : List ℤ) (symbol : ℕ → ℕ) → head < 89 → Fit symbol samples → (n p : ℕ) (at : State) → 0 < p → p + n ≡ samples → IsTrue (is_ima_state at)
    → open_chain targets n p (unsigned_abs at.b) ≤ tail_cost (ima samples) (miss (ima samples) targets) head symbol p at n
unfolding open_chain
open-true samples head targets symbol head_fits fit zero p at later ends is = omega arith
open-true samples head targets symbol head_fits fit (suc n) p at later ends is =
    let index = unsigned_abs at.b in
    let code = symbol p in
    let next = ima_step head p code at in
    let small = code-fits symbol samples p fit later (omega arith) in
    let later_on = chain-true samples head targets symbol head_fits fit n (p + 1) next (omega arith) (omega arith) (step-fits head p code at head_fits (fit p (omega arith)) is) in
    let here = open-below targets n p index code small in
    let moved = ap (chain targets n (p + 1)) (after-index head p code at later) in
    let carries = carried-below targets p next.a in
    omega (arith, later_on, here, moved, carries)

first-index : (head symbol : ℕ) (at : State) → unsigned_abs (ima_step head 0 symbol at).b ≡ head
unfolding first_state
first-index head symbol at = ap (λ (s : State). unsigned_abs s.b) (step-first head symbol at)

-- from the first place on
whole-true : (samples head : ℕ) (targets : List ℤ) (symbol : ℕ → ℕ) → head < 89 → Fit symbol samples → (n : ℕ) (at : State) → suc n ≡ samples → IsTrue (is_ima_state at)
    → chain targets n 1 head ≤ tail_cost (ima samples) (miss (ima samples) targets) head symbol 0 at (suc n)
whole-true samples head targets symbol head_fits fit n at e is =
    let next = ima_step head 0 (symbol 0) at in
    let later_on = chain-true samples head targets symbol head_fits fit n (0 + 1) next (omega arith) (omega arith) (step-fits head 0 (symbol 0) at head_fits (fit 0 (omega arith)) is) in
    let index = ap (chain targets n (0 + 1)) (first-index head (symbol 0) at) in
    let carries = carried-below targets 0 next.a in
    omega (arith, later_on, index, carries)

-- no continuation of a block costs less than the floor
pub floor-true : (samples head p : ℕ) (targets : List ℤ) (symbol : ℕ → ℕ) (at : State) → head < 89 → p < samples → Fit symbol samples → IsTrue (is_ima_state at)
    → ima_floor samples head p (unsigned_abs at.b) targets ≤ tail_cost (ima samples) (miss (ima samples) targets) head symbol p at (samples - p)
floor-true samples head zero targets symbol at head_fits within fit is =
    let whole = whole-true samples head targets symbol head_fits fit (samples - 1) at (omega arith) is in
    let all : suc (samples - 1) ≡ samples - 0 = omega arith in
    let same = ap (tail_cost (ima samples) (miss (ima samples) targets) head symbol 0 at) all in
    omega (arith, whole, same, floor-first samples head (unsigned_abs at.b) targets)
floor-true samples head (suc p) targets symbol at head_fits within fit is =
    let rest = open-true samples head targets symbol head_fits fit (samples - suc p) (suc p) at (omega arith) (omega arith) is in
    omega (arith, rest, floor-later samples head (suc p) (unsigned_abs at.b) targets (omega arith))
