-- Layers by their number, and one more behind them.
use Rattle.std.proofs.Common.{◌≡◌, ℕ, zero, suc, ◌<◌, ◌≤◌, ◌⊎◌, inl, inr, List, [], ◌∷◌, ◌++◌, length, map, get_or, arith, refl, ap, sym, ◌∙◌, subst, Bool, true, false, cond, Some, None}
use Rattle.std.specs.Prelude.{IsTrue}
use Rattle.std.proofs.lemmas.List.{map-append}
use Rattle.std.proofs.lemmas.Bool.{cond-true, cond-false}
use Rattle.std.proofs.lemmas.Bool.Decides.{nat_tests}
use Rattle.std.proofs.Math.Nat.{eq-or-lt_of_le}
use Rattle.box_layers.specs.declared.key.Key.{Key}
use Rattle.box_layers.specs.declared.layer.Layer.{Layer}
use Rattle.box_layers.specs.Keys.{key_before, key_same}
use Rattle.box_layers.specs.Layers.{AreLayers, IsAbove, IsBelow, IsLayer, LayerLists, first_of, lists_of}
use Rattle.box_layers.proofs.CellOrder.{key-trans}

below-more : (k : Key) (ls : List LayerLists) (l : LayerLists) → IsBelow k ls → IsTrue (key_before k l.key) → IsBelow k (ls ++ l ∷ [])
below-more k [] l b t = (t, tt)
below-more k (x ∷ ls) l b t = (b.0, below-more k ls l b.1 t)

pub layers-more : (ls : List LayerLists) (l : LayerLists) → AreLayers ls → IsLayer l → IsAbove l.key ls → AreLayers (ls ++ l ∷ [])
layers-more [] l a i k = (i, tt, tt)
layers-more (x ∷ ls) l a i k = (a.0, below-more x.key ls l a.1 k.0, layers-more ls l a.2 i k.1)

-- after a push that may be refused
pub pushed-layers : (b : Bool) (old new : List Layer) (l : Layer) → new ≡ cond b (old ++ l ∷ []) old → AreLayers (map lists_of old) → IsLayer (lists_of l) → IsAbove l.key (map lists_of old) → AreLayers (map lists_of new)
pushed-layers true old new l e a i k = subst AreLayers (sym (ap (map lists_of) e ∙ map-append lists_of old (l ∷ []))) (layers-more (map lists_of old) (lists_of l) a i k)
pushed-layers false old new l e a i k = subst AreLayers (sym (ap (map lists_of) e)) a

pub layer-in : (xs : List Layer) (i : ℕ) (d : Layer) → i < length xs → AreLayers (map lists_of xs) → IsLayer (lists_of (get_or xs i d))
layer-in [] i d h a = absurd (omega arith)
layer-in (x ∷ xs) zero d h a = a.0
layer-in (x ∷ xs) (suc i) d h a = layer-in xs i d (omega arith) a.2

below-at : (k : Key) (xs : List Layer) (j : ℕ) (d : Layer) → IsBelow k (map lists_of xs) → j < length xs → key_before k (get_or xs j d).key ≡ true
below-at k [] j d b h = absurd (omega arith)
below-at k (x ∷ xs) zero d b h = b.0
below-at k (x ∷ xs) (suc j) d b h = below-at k xs j d b.1 (omega arith)

pub rising-at : (xs : List Layer) (i j : ℕ) (d : Layer) → AreLayers (map lists_of xs) → i < j → j < length xs → key_before (get_or xs i d).key (get_or xs j d).key ≡ true
rising-at [] i j d a h l = absurd (omega arith)
rising-at (x ∷ xs) zero zero d a h l = absurd (omega arith)
rising-at (x ∷ xs) zero (suc j) d a h l = below-at x.key xs j d a.1 (omega arith)
rising-at (x ∷ xs) (suc i) zero d a h l = absurd (omega arith)
rising-at (x ∷ xs) (suc i) (suc j) d a h l = rising-at xs i j d a.2 (omega arith) (omega arith)

-- what stands before a key is a front of the layers
pub parted : (xs : List Layer) (key : Key) → AreLayers (map lists_of xs) → (i j : ℕ) (d : Layer) → i ≤ j → j < length xs → key_before (get_or xs j d).key key ≡ true → key_before (get_or xs i d).key key ≡ true
parted xs key a i j d le l h =
    elim (eq-or-lt_of_le {n = i} {m = j} le) [
      | inl same ↦ ap (λ z. key_before (get_or xs z d).key key) same ∙ h
      | inr less ↦ key-trans _ _ _ (rising-at xs i j d a less l) h
    ]

pub before-not-same : (j k : Key) → key_before j k ≡ true → key_same j k ≡ false
unfolding key_before
before-not-same j k h = grind (arith, nat_tests)

after-not-same : (j k : Key) → key_before k j ≡ true → key_same j k ≡ false
unfolding key_before
after-not-same j k h = grind (arith, nat_tests)

else-after : (j k : Key) → key_before j k ≡ false → key_same j k ≡ false → key_before k j ≡ true
unfolding key_before
else-after j k h n = grind (arith, nat_tests)

pub first-here : (xs : List Layer) (key : Key) (i : ℕ) (d : Layer) → i < length xs → ((k : ℕ) → k < i → key_before (get_or xs k d).key key ≡ true) → key_same (get_or xs i d).key key ≡ true
    → first_of key (map lists_of xs) ≡ Some (lists_of (get_or xs i d))
first-here [] key i d l h e = absurd (omega arith)
first-here (x ∷ xs) key zero d l h e = cond-true _ _ _ e
first-here (x ∷ xs) key (suc i) d l h e =
    cond-false (key_same x.key key) (Some (lists_of x)) (first_of key (map lists_of xs)) (before-not-same x.key key (h 0 (omega arith))) ∙ first-here xs key i d (omega arith) (λ k m. h (suc k) (omega arith)) e

first-none : (xs : List Layer) (key : Key) (d : Layer) → ((k : ℕ) → k < length xs → key_same (get_or xs k d).key key ≡ false) → first_of key (map lists_of xs) ≡ None
first-none [] key d h = refl
first-none (x ∷ xs) key d h =
    cond-false (key_same x.key key) (Some (lists_of x)) (first_of key (map lists_of xs)) (h 0 (omega arith)) ∙ first-none xs key d (λ k l. h (suc k) (omega arith))

lt-or-ge : (k i : ℕ) → (k < i) ⊎ (i ≤ k)
lt-or-ge k i = grind arith

-- none has the key where the first that does not stand before it has another
pub none-same : (xs : List Layer) (key : Key) (i : ℕ) (d : Layer) → AreLayers (map lists_of xs) → ((k : ℕ) → k < i → key_before (get_or xs k d).key key ≡ true)
    → ((k : ℕ) → i ≤ k → k < length xs → key_before (get_or xs k d).key key ≡ false) → (i < length xs → key_same (get_or xs i d).key key ≡ false) → first_of key (map lists_of xs) ≡ None
none-same xs key i d a below from other =
    first-none xs key d (λ k l. (elim (lt-or-ge k i) [
      | inl lt ↦ before-not-same (get_or xs k d).key key (below k lt)
      | inr ge ↦ (elim (eq-or-lt_of_le {n = i} {m = k} ge) [
        | inl same ↦ ap (λ z. key_same (get_or xs z d).key key) (sym same) ∙ other (omega arith)
        | inr less ↦ after-not-same (get_or xs k d).key key (key-trans key (get_or xs i d).key (get_or xs k d).key (else-after (get_or xs i d).key key (from i (omega arith) (omega arith)) (other (omega arith))) (rising-at xs i k d a less l))
      ])
    ]))

-- nor where all stand before it
pub none-from : (xs : List Layer) (key : Key) → ((k : ℕ) (d : Layer) → k < length xs → key_before (get_or xs k d).key key ≡ true) → first_of key (map lists_of xs) ≡ None
none-from [] key h = refl
none-from (x ∷ xs) key h =
    cond-false (key_same x.key key) (Some (lists_of x)) (first_of key (map lists_of xs)) (before-not-same x.key key (h 0 x (omega arith))) ∙ none-from xs key (λ k d l. h (suc k) d (omega arith))
