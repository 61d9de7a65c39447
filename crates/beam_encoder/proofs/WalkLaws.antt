-- The beam's list of blocks: what it decodes to, what it costs, and that it is legal.
use Rattle.std.proofs.Common.{◌≡◌, ℕ, zero, suc, ◌+◌, ◌*◌, ◌/◌, ◌%◌, ◌<◌, ◌≤◌, refl, sym, ap, ◌∙◌, arith, ℤ, pos, List, get_or}
use Rattle.std.proofs.lemmas.List.FromFn.{get_or-map-range_with_len}
use Rattle.machine_core.specs.declared.state.State.{State}
use Rattle.machine_core.specs.Decoder.{Decoder, start, cost_of, miss}
use Rattle.machine_core.specs.Blocks.{Blocks, head_at, symbol_at, step_at, state_at}
use Rattle.machine_core.specs.Sums.{cost_at, sum_after, sum_from}
use Rattle.machine_core.proofs.Places.{block-of, place-of, block-ends}
use Rattle.machine_core.proofs.Lists.{get_or-part}
use Rattle.machine_core.proofs.States.{sum-split, state_after, after-is}
use Rattle.beam_encoder.specs.Near.{near_state, near_symbol, near_sum, targets_in}
use Rattle.beam_encoder.specs.Walk.{walk_state, walk_sum, walk_symbol, walk_list}

-- the state after p places of block b
abbrev state_in : Decoder → List ℕ → List ℤ → ℕ → ℕ → State
state_in d heads targets b p = near_state d (get_or heads b 0) (targets_in d targets b) (walk_state d heads targets b) p

-- the list holds the beam's head of each block
pub head-in : (d : Decoder) (heads : List ℕ) (targets : List ℤ) (blocks b : ℕ) → b < blocks
    → get_or (walk_list d heads targets blocks).heads b 0 ≡ get_or heads b 0
unfolding walk_list
head-in d heads targets blocks b below = refl

-- and the beam's symbol at each place of a block
pub symbol-in : (d : Decoder) (heads : List ℕ) (targets : List ℤ) (blocks b p i : ℕ) → i ≡ b * d.samples + p → b < blocks → p < d.samples
    → symbol_at (walk_list d heads targets blocks) i ≡ walk_symbol d heads targets b p
unfolding walk_list
symbol-in d heads targets blocks b p i e below within =
    let ends = block-ends b d.samples blocks below in
    let block = block-of b d.samples p i e within in
    let place = place-of b d.samples p i e within in
    get_or-map-range_with_len (λ k. walk_symbol d heads targets (k / d.samples) (k % d.samples)) 0 (blocks * d.samples) i i 0 (omega arith) (omega arith)
    ∙ (ap (λ z. walk_symbol d heads targets z (i % d.samples)) block ∙ ap (walk_symbol d heads targets b) place)

-- each sample is under the beam's head of its block
pub head-of : (d : Decoder) (heads : List ℕ) (targets : List ℤ) (blocks b p i : ℕ) → i ≡ b * d.samples + p → b < blocks → p < d.samples
    → head_at d (walk_list d heads targets blocks) i ≡ get_or heads b 0
head-of d heads targets blocks b p i e below within =
    ap (λ z. get_or (walk_list d heads targets blocks).heads z 0) (block-of b d.samples p i e within) ∙ head-in d heads targets blocks b below

-- a block's target is the list's
pub target-in : (d : Decoder) (targets : List ℤ) (b p i : ℕ) → i ≡ b * d.samples + p → p < d.samples → get_or (targets_in d targets b) p (pos 0) ≡ get_or targets i (pos 0)
target-in d targets b p i e within = get_or-part targets (b * d.samples) d.samples p (pos 0) within ∙ ap (λ z. get_or targets z (pos 0)) (sym e)

-- within a block the list's states are those of its nearest symbols
pub states-in : (d : Decoder) (heads : List ℕ) (targets : List ℤ) (blocks b : ℕ) → b < blocks
    → state_at d (walk_list d heads targets blocks) start (b * d.samples) ≡ walk_state d heads targets b
    → (p i : ℕ) → i ≡ b * d.samples + p → p ≤ d.samples → state_at d (walk_list d heads targets blocks) start i ≡ state_in d heads targets b p
unfolding near_state near_symbol walk_symbol
states-in d heads targets blocks b below here zero i e within =
    let first : i ≡ b * d.samples = omega arith in ap (state_at d (walk_list d heads targets blocks) start) first ∙ here
states-in d heads targets blocks b below here (suc p) zero e within = absurd (omega arith)
states-in d heads targets blocks b below here (suc p) (suc i) e within =
    let place : i ≡ b * d.samples + p = omega arith in
    let before = states-in d heads targets blocks b below here p i place (omega arith) in
    let head = head-of d heads targets blocks b p i place below (omega arith) in
    let symbol = symbol-in d heads targets blocks b p i place below (omega arith) in
    let at = place-of b d.samples p i place (omega arith) in
    cc

-- so are those before each block
pub state-before : (d : Decoder) (heads : List ℕ) (targets : List ℤ) (blocks b : ℕ) → b ≤ blocks
    → state_at d (walk_list d heads targets blocks) start (b * d.samples) ≡ walk_state d heads targets b
unfolding walk_state
state-before d heads targets blocks zero below = let none : 0 * d.samples ≡ 0 = omega arith in ap (state_at d (walk_list d heads targets blocks) start) none
state-before d heads targets blocks (suc b) below =
    states-in d heads targets blocks b (omega arith) (state-before d heads targets blocks b (omega arith)) d.samples (suc b * d.samples) (omega arith) (omega arith)

-- a sample costs in the list what it costs in its block
pub cost-in : (d : Decoder) (heads : List ℕ) (targets : List ℤ) (blocks b p i : ℕ) → i ≡ b * d.samples + p → b < blocks → p < d.samples
    → cost_at d (walk_list d heads targets blocks) targets i ≡ cost_of d (state_in d heads targets b (suc p)) (get_or (targets_in d targets b) p (pos 0))
cost-in d heads targets blocks b p i e below within =
    let before = state-before d heads targets blocks b (omega arith) in
    let state = states-in d heads targets blocks b below before (suc p) (suc i) (omega arith) (omega arith) in
    let target = target-in d targets b p i e within in
    ap (λ s. cost_of d s (get_or targets i (pos 0))) state ∙ ap (cost_of d (state_in d heads targets b (suc p))) (sym target)

-- one more sample adds its cost
last-sample : (d : Decoder) (list : Blocks) (targets : List ℤ) (i : ℕ) → sum_from d list targets 0 (suc i) ≡ sum_from d list targets 0 i + cost_at d list targets i
last-sample d list targets i =
    let split = sum-split d (miss d targets) list start 0 i 1 i (omega arith) in
    let after = after-is d list start 0 i i (omega arith) in
    let last : sum_after d (miss d targets) list (state_after d list start 0 i) i 1 ≡ cost_at d list targets i + 0 = ap (λ s. miss d targets i (step_at d list i s) + 0) after in
    let one : suc i ≡ i + 1 = omega arith in
    let all = ap (sum_after d (miss d targets) list start 0) one in
    omega (arith, all, split, last)

-- what stands before place p of block b costs what the blocks before it and its first p places cost
pub sums-in : (d : Decoder) (heads : List ℕ) (targets : List ℤ) (blocks b : ℕ) → b < blocks
    → sum_from d (walk_list d heads targets blocks) targets 0 (b * d.samples) ≡ walk_sum d heads targets b
    → (p i : ℕ) → i ≡ b * d.samples + p → p ≤ d.samples
    → sum_from d (walk_list d heads targets blocks) targets 0 i
    ≡ walk_sum d heads targets b + near_sum d (get_or heads b 0) (targets_in d targets b) (walk_state d heads targets b) p
unfolding near_sum
sums-in d heads targets blocks b below here zero i e within =
    let first : i ≡ b * d.samples = omega arith in
    let same = ap (sum_from d (walk_list d heads targets blocks) targets 0) first in
    omega (arith, same, here)
sums-in d heads targets blocks b below here (suc p) zero e within = absurd (omega arith)
sums-in d heads targets blocks b below here (suc p) (suc i) e within =
    let place : i ≡ b * d.samples + p = omega arith in
    let before = sums-in d heads targets blocks b below here p i place (omega arith) in
    let last = last-sample d (walk_list d heads targets blocks) targets i in
    let cost = cost-in d heads targets blocks b p i place below (omega arith) in
    omega (arith, before, last, cost)

-- the list costs what its blocks cost
pub sum-before : (d : Decoder) (heads : List ℕ) (targets : List ℤ) (blocks b : ℕ) → b ≤ blocks
    → sum_from d (walk_list d heads targets blocks) targets 0 (b * d.samples) ≡ walk_sum d heads targets b
unfolding walk_sum
sum-before d heads targets blocks zero below = let none : 0 * d.samples ≡ 0 = omega arith in ap (sum_from d (walk_list d heads targets blocks) targets 0) none
sum-before d heads targets blocks (suc b) below =
    sums-in d heads targets blocks b (omega arith) (sum-before d heads targets blocks b (omega arith)) d.samples (suc b * d.samples) (omega arith) (omega arith)
