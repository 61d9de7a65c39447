-- The states of a list whose heads and symbols the decoder has, and what its samples cost.
use Rattle.std.proofs.Common.{◌≡◌, ℕ, zero, suc, ◌+◌, ◌*◌, ◌/◌, ◌%◌, ◌^◌, ◌<◌, ◌≤◌, arith, refl, ap, IsTrue, ℤ, pos, List, length, get_or, zero-add}
use Rattle.std.proofs.Math.Nat.{mod-lt, suc-add}
use Rattle.std.proofs.lemmas.List.Elements.{All-get_or}
use Rattle.adpcm_nums.specs.Sample.{IsSample, AreSamples}
use Rattle.machine_core.specs.declared.state.State.{State}
use Rattle.machine_core.specs.Decoder.{Decoder, miss}
use Rattle.machine_core.specs.Blocks.{Blocks, IsInRange, head_at, symbol_at, step_at, state_at}
use Rattle.machine_core.specs.Sums.{sum_after}
use Rattle.machine_core.specs.Rules.{Rules, IsMachine}
use Rattle.machine_core.proofs.Places.{block-below}

-- a step of a list leads from a state to a state
pub step-fits : (r : Rules) → IsMachine r → (blocks : ℕ) (list : Blocks) → IsInRange r.decoder blocks list
    → (i : ℕ) (at : State) → i < blocks * r.decoder.samples → IsTrue (r.decoder.is_state at) → IsTrue (r.decoder.is_state (step_at r.decoder list i at))
step-fits r laws blocks list fits i at within is_state =
    laws.steps (head_at r.decoder list i) (i % r.decoder.samples) (symbol_at list i) at
    (fits.heads_fit (i / r.decoder.samples) (block-below i r.decoder.samples blocks within)) (mod-lt i laws.some_samples) (fits.symbols_fit i within) is_state

-- the states of a list are states
pub states : (r : Rules) → IsMachine r → (blocks : ℕ) (list : Blocks) → IsInRange r.decoder blocks list
    → (from : State) → IsTrue (r.decoder.is_state from) → (i : ℕ) → i ≤ blocks * r.decoder.samples → IsTrue (r.decoder.is_state (state_at r.decoder list from i))
states r laws blocks list fits from is_state zero within = is_state
states r laws blocks list fits from is_state (suc i) within =
    step-fits r laws blocks list fits i (state_at r.decoder list from i) (omega arith) (states r laws blocks list fits from is_state i (omega arith))

-- the state after `count` samples from sample i on
abbrev pub state_after : Decoder → Blocks → State → ℕ → ℕ → State
state_after d list at i zero = at
state_after d list at i (suc count) = state_after d list (step_at d list i at) (suc i) count

-- it is a state
pub after-fits : (r : Rules) → IsMachine r → (blocks : ℕ) (list : Blocks) → IsInRange r.decoder blocks list
    → (i count : ℕ) (at : State) → i + count ≤ blocks * r.decoder.samples → IsTrue (r.decoder.is_state at) → IsTrue (r.decoder.is_state (state_after r.decoder list at i count))
after-fits r laws blocks list fits i zero at within is_state = is_state
after-fits r laws blocks list fits i (suc count) at within is_state =
    after-fits r laws blocks list fits (suc i) count (step_at r.decoder list i at) (omega arith) (step-fits r laws blocks list fits i at (omega arith) is_state)

-- from the state before sample i it is the state so many samples on
pub after-is : (d : Decoder) (list : Blocks) (from : State) (i count j : ℕ) → j ≡ i + count → state_after d list (state_at d list from i) i count ≡ state_at d list from j
after-is d list from i zero j e = let here : i ≡ j = omega arith in ap (state_at d list from) here
after-is d list from i (suc count) j e = after-is d list from (suc i) count j (omega arith)

-- a target has 16 bits
pub is-sample-at : (targets : List ℤ) → AreSamples targets → (i : ℕ) → i < length targets → IsSample (get_or targets i (pos 0))
is-sample-at targets range i within = All-get_or IsSample targets i (pos 0) within range

-- the sum of some samples and then some more
pub sum-split : (d : Decoder) (cost : ℕ → State → ℕ) (list : Blocks) (at : State) (i a b j : ℕ) → j ≡ i + a
    → sum_after d cost list at i (a + b) ≡ sum_after d cost list at i a + sum_after d cost list (state_after d list at i a) j b
sum-split d cost list at i zero b j e = let same : j ≡ i = omega arith in rw (zero-add, zero-add, same) refl
sum-split d cost list at i (suc a) b j e = let ih = sum-split d cost list (step_at d list i at) (suc i) a b j (omega arith) in rw suc-add (omega (arith, ih))

-- no sample costs more than 2 ^ 32
pub sum-small : (r : Rules) → IsMachine r → (blocks : ℕ) (list : Blocks) (targets : List ℤ) → IsInRange r.decoder blocks list
    → length targets ≡ blocks * r.decoder.samples → AreSamples targets → (at : State) → IsTrue (r.decoder.is_state at) → (i count : ℕ) → i + count ≤ blocks * r.decoder.samples
    → sum_after r.decoder (miss r.decoder targets) list at i count ≤ count * 2 ^ 32
sum-small r laws blocks list targets fits count_is range at is_state i zero within = omega arith
sum-small r laws blocks list targets fits count_is range at is_state i (suc count) within =
    let next = step_at r.decoder list i at in
    let is_next = step-fits r laws blocks list fits i at (omega arith) is_state in
    let here = laws.costs_small next (get_or targets i (pos 0)) is_next (is-sample-at targets range i (omega arith)) in
    let later = sum-small r laws blocks list targets fits count_is range next is_next (suc i) count (omega arith) in
    omega (arith, here, later)
