-- At a later place every head of a lane has the lane's floor.
use Rattle.std.proofs.Common.{◌≡◌, ℕ, ◌*◌, ◌/◌, ◌%◌, ◌^◌, ◌<◌, ◌≤◌, arith, sym, ◌∙◌, ℤ, List, length, inl, inr, ◌==◌, Bool, true, IsTrue}
use Rattle.std.proofs.Math.Nat.{mod-lt}
use Rattle.std.proofs.lemmas.Bool.{cases_Bool, cond-true, cond-false, eq-eqb, eqb-true}
use Rattle.adpcm_nums.specs.Sample.{AreSamples}
use Rattle.machine_core.specs.declared.boxes.Bx.{Bx}
use Rattle.machine_core.specs.Rules.{Rules, IsMachine}
use Rattle.machine_core.specs.Floors.{top, block_targets, may_take, head_floor, floor_in}
use Rattle.adpcm_nums.proofs.LeastValueLaws.{least-is}
use Rattle.machine_core.proofs.Places.{not-first}

-- the test of a head at a later place
later-test : (r : Rules) (fixed : ℕ → Bool) (i lane head : ℕ) → 0 < i % r.decoder.samples → may_take r fixed i lane head ≡ (r.lane head (i % r.decoder.samples) == lane)
later-test r fixed i lane head later = cond-false _ _ _ (not-first (i % r.decoder.samples) later)

-- a head that may not be taken counts as the largest number; all others have the floor of any of them
above-one : (r : Rules) → IsMachine r → (fixed : ℕ → Bool) (targets : List ℤ) (i lane head other : ℕ) (bx : Bx) → 0 < i % r.decoder.samples → head < r.decoder.heads → other < r.decoder.heads
    → r.lane head (i % r.decoder.samples) ≡ lane → r.floor head (i % r.decoder.samples) bx (block_targets r targets (i / r.decoder.samples)) ≤ top
    → r.floor head (i % r.decoder.samples) bx (block_targets r targets (i / r.decoder.samples)) ≤ head_floor r fixed targets i lane bx other
above-one r laws fixed targets i lane head other bx later fits other_fits is small =
    let p = i % r.decoder.samples in
    let block = block_targets r targets (i / r.decoder.samples) in
    elim (cases_Bool (may_take r fixed i lane other)) [
      | inl takes ↦ (
          let here : r.lane other p ≡ lane = eqb-true _ _ (sym (later-test r fixed i lane other later) ∙ takes) in
          let alike = laws.floors_alike head other p bx block fits other_fits later (mod-lt i laws.some_samples) (is ∙ sym here) in
          let same : head_floor r fixed targets i lane bx other ≡ r.floor other p bx block = cond-true _ _ _ takes in
          omega (arith, alike, same))
      | inr forbidden ↦ (let same : head_floor r fixed targets i lane bx other ≡ top = cond-false _ _ _ forbidden in omega (arith, same, small))
    ]

pub lane-floor : (r : Rules) → IsMachine r → (fixed : ℕ → Bool) (targets : List ℤ) (i lane head : ℕ) (bx : Bx) → 0 < i % r.decoder.samples → head < r.decoder.heads
    → r.lane head (i % r.decoder.samples) ≡ lane → IsTrue (r.is_box (i % r.decoder.samples) bx)
    → length (block_targets r targets (i / r.decoder.samples)) ≡ r.decoder.samples → AreSamples (block_targets r targets (i / r.decoder.samples))
    → floor_in r fixed targets i lane bx ≡ r.floor head (i % r.decoder.samples) bx (block_targets r targets (i / r.decoder.samples))
lane-floor r laws fixed targets i lane head bx later fits is is_box count range =
    let p = i % r.decoder.samples in
    let block = block_targets r targets (i / r.decoder.samples) in
    let v = r.floor head p bx block in
    let less : v ≤ r.decoder.samples * 2 ^ 36 = laws.floors_small head p bx block fits (mod-lt i laws.some_samples) is_box count range in
    let few = laws.few_samples in
    let small : v ≤ top = omega (arith, less, few) in
    let takes : may_take r fixed i lane head ≡ true = later-test r fixed i lane head later ∙ eq-eqb _ _ is in
    let own : head_floor r fixed targets i lane bx head ≡ v = cond-true _ _ _ takes in
    sym (least-is r.decoder.heads (head_floor r fixed targets i lane bx) top v head
    (λ other below. above-one r laws fixed targets i lane head other bx later fits below is small) small fits (sym own))
