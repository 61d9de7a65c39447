-- A block's floors are below the costs of every legal list.
use Rattle.std.proofs.Common.{◌≡◌, ℕ, zero, suc, ◌+◌, ◌-◌, ◌*◌, ◌/◌, ◌%◌, ◌<◌, ◌≤◌, arith, refl, ap, sym, ◌∙◌, subst, true, IsTrue, ℤ, pos, List, length, get_or, drop, length-take, length-drop, Bool}
use Rattle.std.proofs.Math.Nat.{sub-zero}
use Rattle.std.proofs.lemmas.Bool.{cond-true}
use Rattle.std.proofs.lemmas.List.{get_or-take, get_or-drop}
use Rattle.std.proofs.lemmas.List.Elements.{All-take, All-drop}
use Rattle.adpcm_nums.specs.Sample.{IsSample, AreSamples}
use Rattle.machine_core.specs.declared.boxes.Bx.{Bx}
use Rattle.machine_core.specs.Boxes.{InBox}
use Rattle.machine_core.specs.declared.state.State.{State}
use Rattle.machine_core.specs.Decoder.{miss}
use Rattle.machine_core.specs.Blocks.{Blocks, IsLegal, symbol_at, step_at, rule_of}
use Rattle.machine_core.specs.Sums.{sum_after}
use Rattle.machine_core.specs.Rules.{Rules, IsMachine, tail_cost}
use Rattle.machine_core.specs.Floors.{top, allowed_floor, block_targets, may_take, head_floor, floor_in, block_floor}
use Rattle.adpcm_nums.proofs.LeastValueLaws.{least-below}
use Rattle.machine_core.proofs.Places.{block-of, place-of, block-ends}

-- a legal list for these targets
pub record Encodes (r : Rules) (fixed : ℕ → Bool) (blocks : ℕ) (targets : List ℤ) (list : Blocks) : Type 0 where
  pub laws : IsMachine r
  pub legal : IsLegal r.decoder blocks fixed list
  pub count : length targets ≡ blocks * r.decoder.samples
  pub range : AreSamples targets

-- a block's target is the list's
pub target-is : (r : Rules) (targets : List ℤ) (b p i : ℕ) → i ≡ b * r.decoder.samples + p → p < r.decoder.samples → get_or (block_targets r targets b) p (pos 0) ≡ get_or targets i (pos 0)
target-is r targets b p i e within =
    get_or-take (b * r.decoder.samples + r.decoder.samples - b * r.decoder.samples) (drop (b * r.decoder.samples) targets) p (pos 0) (omega arith)
    ∙ (get_or-drop (b * r.decoder.samples) targets p (pos 0) ∙ ap (λ j. get_or targets j (pos 0)) (sym e))

-- the costs of the rest of a block are a part of the sum
pub tail-is : (r : Rules) (list : Blocks) (targets : List ℤ) (at : State) (b p i count : ℕ) → i ≡ b * r.decoder.samples + p → p + count ≤ r.decoder.samples
    → tail_cost r.decoder (miss r.decoder (block_targets r targets b)) (get_or list.heads b 0) (λ q. symbol_at list (b * r.decoder.samples + q)) p at count
    ≡ sum_after r.decoder (miss r.decoder targets) list at i count
tail-is r list targets at b p i zero e within = refl
tail-is r list targets at b p i (suc count) e within =
    let block = block-of b r.decoder.samples p i e (omega arith) in
    let place = place-of b r.decoder.samples p i e (omega arith) in
    let target = target-is r targets b p i e (omega arith) in
    let step : step_at r.decoder list i at ≡ r.decoder.step (get_or list.heads b 0) p (symbol_at list (b * r.decoder.samples + p)) at = cc in
    let ih = tail-is r list targets (step_at r.decoder list i at) b (p + 1) (suc i) count (omega arith) (omega arith) in
    cc

-- a block has a target for each of its samples
pub targets-length : (r : Rules) (targets : List ℤ) (blocks b : ℕ) → length targets ≡ blocks * r.decoder.samples → b < blocks → length (block_targets r targets b) ≡ r.decoder.samples
targets-length r targets blocks b count below =
    let ends = block-ends b r.decoder.samples blocks below in
    omega (arith, length-take (b * r.decoder.samples + r.decoder.samples - b * r.decoder.samples) (drop (b * r.decoder.samples) targets), length-drop (b * r.decoder.samples) targets)

-- the floor under the list's own head
pub own-floor-below : (r : Rules) (fixed : ℕ → Bool) (blocks : ℕ) (targets : List ℤ) (list : Blocks) → Encodes r fixed blocks targets list
    → (b p i : ℕ) (bx : Bx) (at : State) → i ≡ b * r.decoder.samples + p → p < r.decoder.samples → b < blocks
    → IsTrue (r.is_box p bx) → IsTrue (r.decoder.is_state at) → InBox at bx
    → r.floor (get_or list.heads b 0) p bx (block_targets r targets b) ≤ sum_after r.decoder (miss r.decoder targets) list at i (r.decoder.samples - p)
own-floor-below r fixed blocks targets list given b p i bx at e within below is_box is_state inside =
    let samples = r.decoder.samples in
    let ends = block-ends b samples blocks below in
    let law = given.laws.floors (get_or list.heads b 0) p bx (block_targets r targets b) (λ q. symbol_at list (b * samples + q)) at
    (given.legal.in_range.heads_fit b below) within (targets-length r targets blocks b given.count below)
    (All-take IsSample _ _ (All-drop IsSample _ _ given.range))
    (λ q before. subst (λ (z : ℕ). symbol_at list (b * samples + q) < r.decoder.symbols z) (place-of b samples q (b * samples + q) refl before) (given.legal.in_range.symbols_fit (b * samples + q) (omega arith)))
    is_box is_state inside in
    let tail = tail-is r list targets at b p i (samples - p) e (omega arith) in
    omega arith

-- the floor under any head that may be taken
pub floor-in-below : (r : Rules) (fixed : ℕ → Bool) (blocks : ℕ) (targets : List ℤ) (list : Blocks) → Encodes r fixed blocks targets list
    → (b p i lane : ℕ) (bx : Bx) (at : State) → i ≡ b * r.decoder.samples + p → p < r.decoder.samples → b < blocks
    → IsTrue (r.is_box p bx) → IsTrue (r.decoder.is_state at) → InBox at bx → may_take r fixed i lane (get_or list.heads b 0) ≡ true
    → floor_in r fixed targets i lane bx ≤ sum_after r.decoder (miss r.decoder targets) list at i (r.decoder.samples - p)
floor-in-below r fixed blocks targets list given b p i lane bx at e within below is_box is_state inside takes =
    let head = get_or list.heads b 0 in
    let block = block-of b r.decoder.samples p i e within in
    let place = place-of b r.decoder.samples p i e within in
    let low = least-below r.decoder.heads (head_floor r fixed targets i lane bx) top head (given.legal.in_range.heads_fit b below) in
    let same : head_floor r fixed targets i lane bx head ≡ r.floor head (i % r.decoder.samples) bx (block_targets r targets (i / r.decoder.samples)) = cond-true _ _ _ takes in
    let here : r.floor head (i % r.decoder.samples) bx (block_targets r targets (i / r.decoder.samples)) ≡ r.floor head p bx (block_targets r targets b) = cc in
    let own = own-floor-below r fixed blocks targets list given b p i bx at e within below is_box is_state inside in
    omega arith

-- the floor under a whole block
pub block-floor-below : (r : Rules) (fixed : ℕ → Bool) (blocks : ℕ) (targets : List ℤ) (list : Blocks) → Encodes r fixed blocks targets list
    → (b : ℕ) (at : State) → b < blocks → IsTrue (r.decoder.is_state at)
    → block_floor r fixed targets b ≤ sum_after r.decoder (miss r.decoder targets) list at (b * r.decoder.samples) r.decoder.samples
block-floor-below r fixed blocks targets list given b at below is_state =
    let samples = r.decoder.samples in
    let head = get_or list.heads b 0 in
    let ends = block-ends b samples blocks below in
    let low = least-below r.decoder.heads (allowed_floor r (rule_of fixed b) (block_targets r targets b)) top head (given.legal.in_range.heads_fit b below) in
    let same : allowed_floor r (rule_of fixed b) (block_targets r targets b) head ≡ r.floor head 0 r.whole (block_targets r targets b) = cond-true _ _ _ (given.legal.obeys.allowed b below) in
    let own = own-floor-below r fixed blocks targets list given b 0 (b * samples) r.whole at (omega arith) given.laws.some_samples below given.laws.whole_is_box is_state (given.laws.whole_holds at is_state) in
    let all = ap (sum_after r.decoder (miss r.decoder targets) list at (b * samples)) (sub-zero samples) in
    omega arith
