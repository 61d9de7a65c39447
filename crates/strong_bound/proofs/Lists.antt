-- The targets of a block behind those of two samples before it.
use Rattle.std.proofs.Common.{◌≡◌, ℕ, ◌+◌, ◌-◌, ◌*◌, ◌<◌, ◌≤◌, arith, ap, sym, ◌∙◌, subst, List, length, get_or, take, drop, refl, length-take, length-drop}
use Rattle.std.proofs.lemmas.List.{get_or-take, get_or-drop}
use Rattle.std.specs.Prelude.{ℤ, pos, slice_range}
use Rattle.machine_core.proofs.Places.{block-ends}
use Rattle.strong_bound.specs.Counted.{AreTargets}

-- the targets of the first block
pub first-targets : (n samples : ℕ) (targets list : List ℤ) → samples ≡ n → n ≤ length targets → length list ≡ 30 → n ≤ 28
    → ((j : ℕ) → j < length (take samples targets) → get_or list (2 + j) (pos 0) ≡ get_or (take samples targets) j (pos 0)) → AreTargets n targets 0 (take (samples + 2) list)
first-targets n samples targets list e within long few own = record {
  count = omega (arith, length-take (samples + 2) list, long, few, e);
  older = λ h. absurd (omega (arith, h));
  last = λ h. absurd (omega (arith, h));
  own = λ j h. get_or-take (samples + 2) list (2 + j) (pos 0) (omega (arith, h, e)) ∙ own j (omega (arith, h, e, within, length-take samples targets)) ∙ get_or-take samples targets j (pos 0) (omega (arith, h, e))
      ∙ (let here : j ≡ 0 * n + j = omega arith in ap (λ (z : ℕ). get_or targets z (pos 0)) here);
}

-- an element of a part of a list
part-at : (targets : List ℤ) (from end j at : ℕ) → j < end - from → at ≡ from + j → get_or (slice_range targets from end) j (pos 0) ≡ get_or targets at (pos 0)
part-at targets from end j at h e = get_or-take (end - from) (drop from targets) j (pos 0) h ∙ get_or-drop from targets j (pos 0) ∙ ap (λ (z : ℕ). get_or targets z (pos 0)) (sym e)

-- the targets of a later block, from its first sample i
later-part : (n i : ℕ) (targets : List ℤ) (b : ℕ) → i ≡ b * n → 2 ≤ i → i + n ≤ length targets → AreTargets n targets b (slice_range targets (i - 2) (i + n))
later-part n i targets b e some long = record {
  count = omega (arith, length-take (i + n - (i - 2)) (drop (i - 2) targets), length-drop (i - 2) targets, some, long);
  older = λ h. part-at targets (i - 2) (i + n) 0 (b * n - 2) (omega (arith, some)) (omega (arith, e));
  last = λ h. part-at targets (i - 2) (i + n) 1 (b * n - 1) (omega (arith, some)) (omega (arith, e, some));
  own = λ j h. part-at targets (i - 2) (i + n) (2 + j) (b * n + j) (omega (arith, some, h)) (omega (arith, e, some));
}

-- a later block begins at the third sample or behind it
pub later-begins : (n b i : ℕ) → 2 ≤ n → 0 < b → i ≡ b * n → 2 ≤ i
later-begins n b i h some e = let p : (b - 1 + 1) * n ≡ (b - 1) * n + n = omega arith in let q : b ≡ b - 1 + 1 = omega (arith, some) in let r : b * n ≡ (b - 1 + 1) * n = ap (λ z. z * n) q in omega (arith, p, r, e, h)

pub later-targets : (n samples b blocks : ℕ) (targets : List ℤ) → samples ≡ n → 2 ≤ n → 0 < b → b < blocks → length targets ≡ blocks * n
    → AreTargets n targets b (slice_range targets (b * samples - 2) (b * samples + samples))
later-targets n samples b blocks targets e h some below count =
    let ends = block-ends b n blocks below in
    let own = later-part n (b * n) targets b refl (later-begins n b (b * n) h some refl) (omega (arith, ends, count)) in
    subst (λ (z : ℕ). AreTargets n targets b (slice_range targets (b * z - 2) (b * z + z))) (sym e) own
