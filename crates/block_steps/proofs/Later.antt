use Rattle.std.proofs.Common.{◌/◌, ◌%◌, ◌≡◌, ℕ, suc, ◌+◌, ◌-◌, ◌<◌, ◌≤◌, ◌≢◌, ℤ, List, length, get_or, set, sym, ◌∙◌, ap, arith, subst, min, inl, inr, ◌⊎◌, get_or-set_same, get_or-set_other}
use Rattle.machine_core.specs.Blocks.{first_only}
use Rattle.machine_core.specs.Rules.{Rules, IsMachine}
use Rattle.machine_core.specs.Floors.{top, block_floor, floors_from}
use Rattle.std.proofs.Math.Nat.{mod-lt}
use Rattle.box_layers.proofs.Sound.{block-within, place-within, block-over, place-over}
use Rattle.block_steps.specs.Tables.{IsSpot}

same-or-not : (a b : ℕ) → (a ≡ b) ⊎ (a ≢ b)
same-or-not a b = grind arith

pub later-more : (m : Rules) (targets : List ℤ) (blocks k : ℕ) (later : List ℕ) (v : ℕ) → k < blocks → blocks + 1 ≤ length later
    → ((b : ℕ) → blocks ≤ b + k → b ≤ blocks → get_or later b 0 ≡ min top (floors_from m first_only targets b (blocks - b)))
    → v ≡ min (block_floor m first_only targets (blocks - 1 - k) + get_or later (blocks - 1 - k + 1) 0) top
    → (b : ℕ) → blocks ≤ b + (k + 1) → b ≤ blocks → get_or (set later (blocks - 1 - k) v) b 0 ≡ min top (floors_from m first_only targets b (blocks - b))
later-more m targets blocks k later v h n inv e b p q =
    let block = blocks - 1 - k in
    elim (same-or-not b block) [
      | inl same ↦ (
          let lt : block < length later = omega arith in
          let s = get_or-set_same later block v 0 lt in
          let i = inv (suc block) (omega arith) (omega arith) in
          let w : blocks - block ≡ suc (blocks - suc block) = omega arith in
          let f : floors_from m first_only targets block (blocks - block) ≡ block_floor m first_only targets block + floors_from m first_only targets (suc block) (blocks - suc block) = ap (floors_from m first_only targets block) w in
          let g : get_or later (block + 1) 0 ≡ get_or later (suc block) 0 = ap (λ x. get_or later x 0) (omega arith) in
          subst (λ (x : ℕ). get_or (set later block v) x 0 ≡ min top (floors_from m first_only targets x (blocks - x))) (sym same) (omega arith))
      | inr ne ↦ (
          let s = get_or-set_other later block b v 0 ne in
          s ∙ inv b (omega arith) q)
    ]

-- the next sample is in the same block
pub spot-within : (m : Rules) (i block place n : ℕ) → n ≡ m.decoder.samples → IsSpot m (record { index = i; block = block; place = place }) → place + 1 < n
    → IsSpot m (record { index = i + 1; block = block; place = place + 1 })
spot-within m i block place n e spot less =
    let b = spot.block in let p = spot.place in
    let here : suc (i % m.decoder.samples) < m.decoder.samples = omega arith in
    let same = block-within i m.decoder.samples here in
    let next = place-within i m.decoder.samples here in
    record { block = b ∙ (sym same ∙ ap (λ z. z / m.decoder.samples) (omega arith)); place = (let up : place + 1 ≡ suc (i % m.decoder.samples) = omega arith in up ∙ (sym next ∙ ap (λ z. z % m.decoder.samples) (omega arith))) }

-- or the first of the next one
pub spot-over : (m : Rules) → IsMachine m → (i block place n : ℕ) → n ≡ m.decoder.samples → IsSpot m (record { index = i; block = block; place = place }) → n ≤ place + 1
    → IsSpot m (record { index = i + 1; block = block + 1; place = 0 })
spot-over m laws i block place n e spot last =
    let b = spot.block in let p = spot.place in
    let within = mod-lt i laws.some_samples in
    let here : suc (i % m.decoder.samples) ≡ m.decoder.samples = omega arith in
    let next = block-over i m.decoder.samples laws.some_samples here in
    let first = place-over i m.decoder.samples laws.some_samples here in
    record { block = (let up : block + 1 ≡ suc (i / m.decoder.samples) = omega arith in up ∙ (sym next ∙ ap (λ z. z / m.decoder.samples) (omega arith))); place = sym first ∙ ap (λ z. z % m.decoder.samples) (omega arith) }
