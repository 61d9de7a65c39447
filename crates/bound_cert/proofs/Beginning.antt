-- A layer by the place where it begins.
use Rattle.std.proofs.Common.{◌≡◌, ℕ, zero, suc, ◌+◌, ◌-◌, ◌*◌, ◌<◌, List, ◌∷◌, length, arith, refl, ap, sym, ◌∙◌, subst, Some, None, Option, true, false, nat_eq}
use Rattle.std.specs.Prelude.{IsSome}
use Rattle.std.proofs.lemmas.Bool.Decides.{nat_tests}
use Rattle.bound_cert.specs.Content.{Here, AreSorted, begins_at, end_of}
use Rattle.bound_cert.specs.Places.{u32_at, count_at, cells_at, layer_at, layer_end, layers_at, here_at, Fit, StandHere}
use Rattle.std.proofs.lemmas.Bool.{cond-true, cond-false}
use Rattle.bound_cert.proofs.ByNumber.{length-cells}

differ : (a b : ℕ) → (a ≡ b → ⊥) → nat_eq a b ≡ false
differ a b h = grind (arith, nat_tests)

same : (a b : ℕ) → a ≡ b → nat_eq a b ≡ true
same a b h = grind (arith, nat_tests)

-- where the layers from a place on lie, and one of them begins at the wanted place
pub record Ahead (bytes : List ℕ) (at left wanted : ℕ) (found : Option Here) : Type 0 where
  pub here : StandHere bytes at left
  pub is : begins_at at (layer_at bytes at ∷ layers_at bytes (layer_end bytes at) left) wanted ≡ found
  pub some : IsSome found

no-some : (o : Option Here) → o ≡ None → IsSome o → ⊥
no-some None e h = cc
no-some (Some x) e h = cc

some-left : (bytes : List ℕ) (at left wanted : ℕ) (found : Option Here) → Ahead bytes at left wanted found → (at ≡ wanted → ⊥) → left ≡ 0 → ⊥
some-left bytes at left wanted found a ne z =
    let step = cond-false (nat_eq at wanted) (Some (here_at bytes at left)) (begins_at (end_of at (length (layer_at bytes at).cells)) (layers_at bytes (layer_end bytes at) left) wanted) (differ _ _ ne) in
    let none : begins_at (end_of at (length (layer_at bytes at).cells)) (layers_at bytes (layer_end bytes at) left) wanted ≡ None = ap (λ n. begins_at (end_of at (length (layer_at bytes at).cells)) (layers_at bytes (layer_end bytes at) n) wanted) z in
    let e : found ≡ None = sym a.is ∙ (step ∙ none) in
    no-some found e a.some

pub first-ahead : (bytes : List ℕ) (start count wanted : ℕ) → Fit bytes start count → AreSorted (layers_at bytes start count) → IsSome (begins_at start (layers_at bytes start count) wanted)
    → (0 < count) × Ahead bytes start (count - 1) wanted (begins_at start (layers_at bytes start count) wanted)
first-ahead bytes start zero wanted f s h = absurd (no-some None refl h)
first-ahead bytes start (suc n) wanted f s h =
    let l : n ≡ suc n - 1 = omega arith in (
      omega arith,
      subst (λ z. Ahead bytes start z wanted (begins_at start (layers_at bytes start (suc n)) wanted)) l (record { here = record { within = f.0; later = f.1; sorted = s }; is = refl; some = h }),
    )

pub go-ahead : (bytes : List ℕ) (at left c wanted : ℕ) (found : Option Here) → c ≡ u32_at bytes (at + 6) → (at ≡ wanted → ⊥) → Ahead bytes at left wanted found
    → (0 < left) × Ahead bytes (at + 10 + 12 * c) (left - 1) wanted found
go-ahead bytes at zero c wanted found e ne a = absurd (some-left bytes at zero wanted found a ne refl)
go-ahead bytes at (suc n) c wanted found e ne a =
    let l : n ≡ suc n - 1 = omega arith in
    let q : layer_end bytes at ≡ at + 10 + 12 * c = ap (λ z. at + 10 + 12 * z) (sym e) in
    let h : StandHere bytes (layer_end bytes at) n = record { within = a.here.later.0; later = a.here.later.1; sorted = a.here.sorted.3 } in
    let p : end_of at (length (cells_at bytes (at + 10) (count_at bytes at))) ≡ layer_end bytes at = ap (end_of at) (length-cells bytes (at + 10) (count_at bytes at)) in
    let step = cond-false (nat_eq at wanted) (Some (here_at bytes at (suc n))) (begins_at (end_of at (length (layer_at bytes at).cells)) (layers_at bytes (layer_end bytes at) (suc n)) wanted) (differ _ _ ne) in
    let is : begins_at (layer_end bytes at) (layers_at bytes (layer_end bytes at) (suc n)) wanted ≡ found = ap (λ z. begins_at z (layers_at bytes (layer_end bytes at) (suc n)) wanted) (sym p) ∙ (sym step ∙ a.is) in
    let b : Ahead bytes (layer_end bytes at) n wanted found = record { here = h; is = is; some = a.some } in (
      omega arith,
      subst (λ z. Ahead bytes (at + 10 + 12 * c) z wanted found) l (subst (λ z. Ahead bytes z n wanted found) q b),
    )

pub there-now : (bytes : List ℕ) (at left wanted : ℕ) (found : Option Here) → at ≡ wanted → Ahead bytes at left wanted found → Some (here_at bytes at left) ≡ found
there-now bytes at left wanted found e a =
    sym (cond-true (nat_eq at wanted) (Some (here_at bytes at left)) (begins_at (end_of at (length (layer_at bytes at).cells)) (layers_at bytes (layer_end bytes at) left) wanted) (same _ _ e)) ∙ a.is
