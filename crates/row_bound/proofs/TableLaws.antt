-- A table of floors.
use Rattle.std.proofs.Common.{◌≡◌, ℕ, zero, suc, ◌+◌, ◌<◌, ◌≤◌, ◌^◌, ◌≢◌, arith, ap, subst, ◌∙◌, sym, refl, ◌⊎◌, inl, inr}
use Rattle.std.specs.Prelude.{ℤ, List, [], ◌∷◌, length, drop, get_or, slice_set, max}
use Rattle.std.proofs.lemmas.List.{get_or-set_same, get_or-set_other, length-set}
use Rattle.row_bound.specs.declared.layer.Layer.{Layer}
use Rattle.row_bound.specs.Paths.{Owes}
use Rattle.row_bound.specs.Searching.{AreFloors}
use Rattle.row_bound.proofs.SuffixLaws.{end-owes, place-as}

-- a list of zeros
abbrev pub zeros : ℕ → List ℕ
zeros zero = []
zeros (suc n) = 0 ∷ zeros n

zero-at : (n i : ℕ) → ◌≡◌ {A = ℕ} (get_or (zeros n) i 0) 0
zero-at zero i = refl
zero-at (suc n) zero = refl
zero-at (suc n) (suc i) = zero-at n i

pub blank-floors : (layers : List Layer) (steps : List ℤ) (m : ℕ) → length layers < m → length (zeros m) ≡ m → AreFloors layers steps (zeros m)
blank-floors layers steps m few size = record {
  enough = omega (arith, few, size);
  small = λ i h. (let z = zero-at m i in omega (arith, z));
  owed = λ i h x y c path. (let z = zero-at m i in omega (arith, z));
}

same-or : (i k : ℕ) → (i ≡ k) ⊎ (i ≢ k)
same-or i k = grind arith

put-small : (floors : List ℕ) (k n f : ℕ) → k < length floors → f ≤ 2 ^ 48 → ((i : ℕ) → i ≤ n → get_or floors i 0 ≤ 2 ^ 48) → (i : ℕ) → i ≤ n → get_or (slice_set floors k f) i 0 ≤ 2 ^ 48
put-small floors k n f h small old i l =
    elim (same-or i k) [
      | inl same ↦ (let e = ap (λ j. get_or (slice_set floors k f) j 0) same ∙ get_or-set_same floors k f 0 h in omega (arith, e, small))
      | inr other ↦ (let e = get_or-set_other floors k i f 0 other in let o = old i l in omega (arith, e, o))
    ]

owes-as : (steps : List ℤ) (layers : List Layer) (n m : ℕ) → n ≡ m → Owes steps layers m → Owes steps layers n
owes-as steps layers n m e o = subst (λ (k : ℕ). Owes steps layers k) (sym e) o

put-owed : (steps : List ℤ) (layers : List Layer) (floors : List ℕ) (k n f : ℕ) → k < length floors → Owes steps (drop k layers) f → ((i : ℕ) → i ≤ n → Owes steps (drop i layers) (get_or floors i 0))
    → (i : ℕ) → i ≤ n → Owes steps (drop i layers) (get_or (slice_set floors k f) i 0)
put-owed steps layers floors k n f h owes old i l =
    elim (same-or i k) [
      | inl same ↦ (
          let e = ap (λ j. get_or (slice_set floors k f) j 0) same ∙ get_or-set_same floors k f 0 h in
          owes-as steps (drop i layers) _ f e (place-as steps layers k i f (sym same) owes))
      | inr other ↦ owes-as steps (drop i layers) _ _ (get_or-set_other floors k i f 0 other) (old i l)
    ]

-- the greater of two floors
owes-max : (steps : List ℤ) (layers : List Layer) (n m r : ℕ) → (r ≡ n) ⊎ (r ≡ m) → Owes steps layers n → Owes steps layers m → Owes steps layers r
owes-max steps layers n m r (inl e) p q = owes-as steps layers r n e p
owes-max steps layers n m r (inr e) p q = owes-as steps layers r m e q

pub either : (n m r : ℕ) → r ≡ max n m → (r ≡ n) ⊎ (r ≡ m)
either n m r e = grind arith

-- one floor more: that of the next place, or what was found where that is more
pub next-floor : (layers : List Layer) (steps : List ℤ) (floors : List ℕ) (i low found r : ℕ) → i < length layers → low ≡ get_or floors (i + 1) 0 → r ≡ max low found → low ≤ 2 ^ 48 → found ≤ 2 ^ 48
    → Owes steps (drop i layers) found → AreFloors layers steps floors → AreFloors layers steps (slice_set floors i r)
next-floor layers steps floors i low found r h is e small few owes old =
    let enough = old.enough in
    let size = length-set floors i r in
    let within : i < length floors = omega (arith, h, enough) in
    let both = either low found r e in
    let most : r ≤ 2 ^ 48 = omega (arith, both, small, few) in
    let longer = end-owes steps layers i (i + 1) low (omega arith) h (owes-as steps (drop (i + 1) layers) low _ is (old.owed (i + 1) (omega (arith, h)))) in
    record {
      enough = omega (arith, enough, size);
      small = put-small floors i (length layers) r within most old.small;
      owed = put-owed steps layers floors i (length layers) r within (owes-max steps (drop i layers) low found r both longer owes) old.owed;
    }
