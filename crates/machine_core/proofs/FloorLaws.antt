-- How large floors are, and how they are added up block by block.
use Rattle.std.proofs.Common.{◌≡◌, ℕ, suc, ◌+◌, ◌-◌, ◌*◌, ◌<◌, ◌≤◌, ◌^◌, arith, ap, ◌∙◌, subst, ℤ, List, length, get_or, set, get_or-set_same, get_or-set_other, inl, inr, ◌≢◌, Bool}
use Rattle.std.proofs.lemmas.Bool.{cond-true, cases_lt}
use Rattle.std.proofs.Math.Nat.{mul-le-mul_right}
use Rattle.adpcm_nums.specs.Sample.{AreSamples}
use Rattle.machine_core.specs.declared.state.HeadRule.{HeadRule}
use Rattle.machine_core.specs.Rules.{Rules, IsMachine}
use Rattle.machine_core.specs.Floors.{allowed_floor, ruled_floor, floors_from, top}
use Rattle.adpcm_nums.proofs.LeastValueLaws.{least-below}

-- some head is allowed, and its floor is small
pub ruled-small : (r : Rules) → IsMachine r → (rule : HeadRule) (targets : List ℤ) → length targets ≡ r.decoder.samples → AreSamples targets → ruled_floor r rule targets ≤ r.decoder.samples * 2 ^ 36
ruled-small r laws rule targets count samples =
    let some = laws.some_head rule in
    let below = least-below r.decoder.heads (allowed_floor r rule targets) top some.0 some.1 in
    let here : allowed_floor r rule targets some.0 ≡ r.floor some.0 0 r.whole targets = cond-true _ _ _ some.2 in
    let small = laws.floors_small some.0 0 r.whole targets some.1 laws.some_samples laws.whole_is_box count samples in
    omega (arith, below, here, small)

-- a block's targets stand in the list
pub block-within : (samples blocks b count : ℕ) → count ≡ blocks * samples → b < blocks → b * samples + samples ≤ count
block-within samples blocks b count e below = let h : suc b * samples ≤ blocks * samples = mul-le-mul_right samples below in omega arith

-- one more place is filled, before those that are
pub rests-more : (r : Rules) (fixed : ℕ → Bool) (targets : List ℤ) (blocks b next sum : ℕ) (rests : List ℕ) → next ≡ b + 1 → b < length rests → sum ≡ floors_from r fixed targets b (blocks - b)
    → ((k : ℕ) → next ≤ k → k ≤ blocks → get_or rests k 0 ≡ floors_from r fixed targets k (blocks - k))
    → (k : ℕ) → b ≤ k → k ≤ blocks → get_or (set rests b sum) k 0 ≡ floors_from r fixed targets k (blocks - k)
rests-more r fixed targets blocks b next sum rests e within here later k from below =
    elim (cases_lt b k) [
      | inl after ↦ (let ne : k ≢ b = omega arith in get_or-set_other rests b k sum 0 ne ∙ later k (omega arith) below)
      | inr not_after ↦ (
          let same : b ≡ k = omega arith in
          subst (λ (z : ℕ). get_or (set rests b sum) z 0 ≡ floors_from r fixed targets z (blocks - z)) same (get_or-set_same rests b sum 0 within ∙ here))
    ]

-- a sum of floors grows by one
pub one-more-floor : (sum floor blocks next most : ℕ) → sum ≤ blocks * most → floor ≤ most → next ≡ blocks + 1 → sum + floor ≤ next * most
one-more-floor sum floor blocks next most so_far here e = let all : next * most ≡ blocks * most + most = ap (λ z. z * most) e ∙ omega arith in omega (arith, all)
