-- The floor under a sample, and under what is left of it, is at most the cost of every legal list.
use Rattle.std.proofs.Common.{◌≡◌, ℕ, zero, suc, ◌+◌, ◌-◌, ◌*◌, ◌/◌, ◌%◌, ◌<◌, ◌≤◌, arith, refl, ap, true, false, IsTrue, ℤ, List, get_or, ◌==◌, Bool}
use Rattle.std.proofs.lemmas.Bool.{cond-false}
use Rattle.machine_core.specs.declared.state.State.{State}
use Rattle.machine_core.specs.declared.boxes.Bx.{Bx}
use Rattle.machine_core.specs.Boxes.{InBox}
use Rattle.machine_core.specs.Decoder.{miss}
use Rattle.machine_core.specs.Blocks.{Blocks}
use Rattle.machine_core.specs.Sums.{sum_after}
use Rattle.machine_core.specs.Rules.{Rules}
use Rattle.machine_core.specs.Floors.{may_take, floor_in, floors_from, rest}
use Rattle.machine_core.proofs.Places.{block-of, place-of, block-ends, not-first}
use Rattle.machine_core.proofs.States.{sum-split, state_after, after-fits}
use Rattle.machine_core.proofs.BlockFloors.{Encodes, floor-in-below, block-floor-below}

-- the floors of some blocks, from any state
pub floors-below : (r : Rules) (fixed : ℕ → Bool) (blocks : ℕ) (targets : List ℤ) (list : Blocks) → Encodes r fixed blocks targets list
    → (b count : ℕ) (at : State) → b + count ≤ blocks → IsTrue (r.decoder.is_state at)
    → floors_from r fixed targets b count ≤ sum_after r.decoder (miss r.decoder targets) list at (b * r.decoder.samples) (count * r.decoder.samples)
floors-below r fixed blocks targets list given b zero at within is_state = omega arith
floors-below r fixed blocks targets list given b (suc count) at within is_state =
    let samples = r.decoder.samples in
    let ends = block-ends b samples blocks (omega arith) in
    let next = state_after r.decoder list at (b * samples) samples in
    let is_next = after-fits r given.laws blocks list given.legal.in_range (b * samples) samples at (omega arith) is_state in
    let here = block-floor-below r fixed blocks targets list given b at (omega arith) is_state in
    let later = floors-below r fixed blocks targets list given (suc b) count next (omega arith) is_next in
    let split = sum-split r.decoder (miss r.decoder targets) list at (b * samples) samples (count * samples) (suc b * samples) (omega arith) in
    let all : suc count * samples ≡ samples + count * samples = omega arith in
    rw all (omega (arith, here, later, split))

-- what the floors of a block and of all later ones come to
floors-to-end : (r : Rules) (fixed : ℕ → Bool) (blocks : ℕ) (targets : List ℤ) (list : Blocks) → Encodes r fixed blocks targets list
    → (b i left : ℕ) (at : State) → b ≤ blocks → i ≡ b * r.decoder.samples → i + left ≡ blocks * r.decoder.samples → IsTrue (r.decoder.is_state at)
    → floors_from r fixed targets b (blocks - b) ≤ sum_after r.decoder (miss r.decoder targets) list at i left
floors-to-end r fixed blocks targets list given b i left at within e ends is_state =
    let below = floors-below r fixed blocks targets list given b (blocks - b) at (omega arith) is_state in
    let all : blocks ≡ b + (blocks - b) = omega arith in
    let samples : blocks * r.decoder.samples ≡ (b + (blocks - b)) * r.decoder.samples = ap (λ x. x * r.decoder.samples) all in
    let count : (blocks - b) * r.decoder.samples ≡ left = omega arith in
    let moved : sum_after r.decoder (miss r.decoder targets) list at (b * r.decoder.samples) ((blocks - b) * r.decoder.samples)
    ≡ sum_after r.decoder (miss r.decoder targets) list at i left = cc in
    omega (arith, below, moved)

-- what is left from sample i on, from every state of the box
pub rest-below : (r : Rules) (fixed : ℕ → Bool) (blocks : ℕ) (targets : List ℤ) (list : Blocks) → Encodes r fixed blocks targets list
    → (b p i lane : ℕ) (bx : Bx) (at : State) → i ≡ b * r.decoder.samples + p → p < r.decoder.samples → b < blocks
    → IsTrue (r.is_box p bx) → IsTrue (r.decoder.is_state at) → InBox at bx → may_take r fixed i lane (get_or list.heads b 0) ≡ true
    → rest r fixed targets blocks i lane bx ≤ sum_after r.decoder (miss r.decoder targets) list at i (blocks * r.decoder.samples - i)
rest-below r fixed blocks targets list given b zero i lane bx at e within below is_box is_state inside takes =
    let block = block-of b r.decoder.samples 0 i e within in
    let place = place-of b r.decoder.samples 0 i e within in
    let ends = block-ends b r.decoder.samples blocks below in
    rw (place, block) (floors-to-end r fixed blocks targets list given b i (blocks * r.decoder.samples - i) at (omega arith) (omega arith) (omega arith) is_state)
rest-below r fixed blocks targets list given b (suc p) i lane bx at e within below is_box is_state inside takes =
    let samples = r.decoder.samples in
    let block = block-of b samples (suc p) i e within in
    let place = place-of b samples (suc p) i e within in
    let ends = block-ends b samples blocks below in
    let next = state_after r.decoder list at i (samples - suc p) in
    let is_next = after-fits r given.laws blocks list given.legal.in_range i (samples - suc p) at (omega arith) is_state in
    let here = floor-in-below r fixed blocks targets list given b (suc p) i lane bx at e within below is_box is_state inside takes in
    let later = floors-to-end r fixed blocks targets list given (suc b) (suc b * samples) (blocks * samples - suc b * samples) next (omega arith) refl (omega arith) is_next in
    let left : samples - suc p + (blocks * samples - suc b * samples) ≡ blocks * samples - i = omega arith in
    let split = sum-split r.decoder (miss r.decoder targets) list at i (samples - suc p) (blocks * samples - suc b * samples) (suc b * samples) (omega arith) in
    let all = ap (sum_after r.decoder (miss r.decoder targets) list at i) left in
    let test : (i % samples == 0) ≡ false = not-first (i % samples) (omega arith) in
    let parts : rest r fixed targets blocks i lane bx ≡ floor_in r fixed targets i lane bx + floors_from r fixed targets (suc (i / samples)) (blocks - suc (i / samples)) = cond-false _ _ _ test in
    let after : floors_from r fixed targets (suc (i / samples)) (blocks - suc (i / samples)) ≡ floors_from r fixed targets (suc b) (blocks - suc b) = ap (λ z. floors_from r fixed targets (suc z) (blocks - suc z)) block in
    omega (arith, here, later, split, all, parts, after)
