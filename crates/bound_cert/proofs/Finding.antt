-- A search for a layer.
use Rattle.std.proofs.Common.{◌≡◌, ℕ, suc, ◌+◌, ◌-◌, ◌*◌, ◌<◌, ◌≤◌, List, [], ◌∷◌, length, arith, refl, ap, sym, ◌∙◌, subst, Some, None, true, false}
use Rattle.std.proofs.lemmas.Bool.Decides.{nat_tests}
use Rattle.box_layers.specs.declared.key.Key.{Key}
use Rattle.box_layers.specs.Keys.{key_before, key_same}
use Rattle.bound_cert.specs.Content.{Layer, Here, IsBelowAll, AreSorted, found_at, end_of}
use Rattle.bound_cert.specs.Places.{u32_at, count_at, key_at, cells_at, layer_end, layers_at, here_at, Fit, StandHere}
use Rattle.std.proofs.lemmas.Bool.{cond-true, cond-false}
use Rattle.box_layers.proofs.CellOrder.{key-trans}
use Rattle.bound_cert.proofs.ByNumber.{length-cells}

before-not : (j k : Key) → key_before j k ≡ true → key_same j k ≡ false
unfolding key_before
before-not j k h = grind (arith, nat_tests)

pub after-not : (j k : Key) → key_before k j ≡ true → key_same j k ≡ false
unfolding key_before
after-not j k h = grind (arith, nat_tests)

neither : (j k : Key) → key_before j k ≡ false → key_same j k ≡ false → key_before k j ≡ true
unfolding key_before
neither j k h e = grind (arith, nat_tests)

none-below : (at : ℕ) (xs : List Layer) (key : Key) → IsBelowAll key xs → found_at at xs key ≡ None
none-below at [] key h = refl
none-below at (x ∷ xs) key h = cond-false (key_same x.key key) _ _ (after-not x.key key h.0) ∙ none-below (end_of at (length x.cells)) xs key h.1

below-all : (l k : Key) (xs : List Layer) → key_before l k ≡ true → IsBelowAll k xs → IsBelowAll l xs
below-all l k [] h a = tt
below-all l k (x ∷ xs) h a = (key-trans l k x.key h a.0, below-all l k xs h a.1)

record Left (bytes : List ℕ) (at n : ℕ) : Type 0 where
  fit : Fit bytes at n
  sorted : AreSorted (layers_at bytes at n)

pub go-on : (bytes : List ℕ) (at n k c : ℕ) (key here : Key) → k < n → here ≡ key_at bytes at → c ≡ u32_at bytes (at + 6) → key_before here key ≡ true
    → Fit bytes at (n - k) → AreSorted (layers_at bytes at (n - k))
    → (found_at (at + 10 + 12 * c) (layers_at bytes (at + 10 + 12 * c) (n - (k + 1))) key ≡ found_at at (layers_at bytes at (n - k)) key)
    × Fit bytes (at + 10 + 12 * c) (n - (k + 1)) × AreSorted (layers_at bytes (at + 10 + 12 * c) (n - (k + 1)))
go-on bytes at n k c key here h e q b f s =
    let m = n - (k + 1) in
    let len : n - k ≡ suc m = omega arith in
    let a : layer_end bytes at ≡ at + 10 + 12 * c = ap (λ z. at + 10 + 12 * z) (sym q) in
    let f' = subst (λ z. Fit bytes at z) len f in
    let s' = subst (λ z. AreSorted (layers_at bytes at z)) len s in
    let no : key_same (key_at bytes at) key ≡ false = ap (λ (z : Key). key_same z key) (sym e) ∙ before-not here key b in
    let l : end_of at (length (cells_at bytes (at + 10) (count_at bytes at))) ≡ layer_end bytes at = ap (end_of at) (length-cells bytes (at + 10) (count_at bytes at)) in (
      sym (ap (λ z. found_at at (layers_at bytes at z) key) len ∙ (cond-false (key_same (key_at bytes at) key) _ _ no ∙ (ap (λ z. found_at z (layers_at bytes (layer_end bytes at) m) key) l ∙ ap (λ z. found_at z (layers_at bytes z m) key) a))),
      subst (λ z. Fit bytes z m) a f'.1,
      subst (λ z. AreSorted (layers_at bytes z m)) a s'.3,
    )

pub found-here : (bytes : List ℕ) (at n k left : ℕ) (key here : Key) → k < n → left ≡ n - k - 1 → here ≡ key_at bytes at → key_same here key ≡ true → Fit bytes at (n - k) → AreSorted (layers_at bytes at (n - k))
    → (Some (here_at bytes at left) ≡ found_at at (layers_at bytes at (n - k)) key) × StandHere bytes at left
found-here bytes at n k left key here h r e y f s =
    let len : n - k ≡ suc left = omega arith in
    let f' = subst (λ z. Fit bytes at z) len f in
    let s' = subst (λ z. AreSorted (layers_at bytes at z)) len s in
    let yes' : key_same (key_at bytes at) key ≡ true = ap (λ (z : Key). key_same z key) (sym e) ∙ y in (
      sym (ap (λ z. found_at at (layers_at bytes at z) key) len ∙ cond-true (key_same (key_at bytes at) key) _ _ yes'),
      record { within = f'.0; later = f'.1; sorted = s' },
    )

pub found-none : (bytes : List ℕ) (at n k : ℕ) (key here : Key) → k < n → here ≡ key_at bytes at → key_before here key ≡ false → key_same here key ≡ false → AreSorted (layers_at bytes at (n - k))
    → None ≡ found_at at (layers_at bytes at (n - k)) key
found-none bytes at n k key here h e b y s =
    let m = n - (k + 1) in
    let len : n - k ≡ suc m = omega arith in
    let s' = subst (λ z. AreSorted (layers_at bytes at z)) len s in
    let no : key_same (key_at bytes at) key ≡ false = ap (λ (z : Key). key_same z key) (sym e) ∙ y in
    let above : key_before key (key_at bytes at) ≡ true = ap (key_before key) (sym e) ∙ neither here key b y in
    sym (ap (λ z. found_at at (layers_at bytes at z) key) len ∙ (cond-false (key_same (key_at bytes at) key) _ _ no ∙ none-below _ (layers_at bytes (layer_end bytes at) m) key (below-all key (key_at bytes at) _ above s'.2)))

pub found-end : (bytes : List ℕ) (at n k : ℕ) (key : Key) → n ≤ k → None ≡ found_at at (layers_at bytes at (n - k)) key
found-end bytes at n k key h = let z : 0 ≡ n - k = omega arith in ap (λ (m : ℕ). found_at at (layers_at bytes at m) key) z

pub later-at : (bytes : List ℕ) (at left c : ℕ) (key : Key) (h : Here) → c ≡ u32_at bytes (at + 6) → here_at bytes at left ≡ h
    → found_at (at + 10 + 12 * c) (layers_at bytes (at + 10 + 12 * c) left) key ≡ found_at (end_of h.at (length h.layer.cells)) h.later key
later-at bytes at left c key h e v =
    let a : at + 10 + 12 * c ≡ layer_end bytes at = ap (λ z. at + 10 + 12 * z) e in
    let l : end_of at (length (cells_at bytes (at + 10) (count_at bytes at))) ≡ layer_end bytes at = ap (end_of at) (length-cells bytes (at + 10) (count_at bytes at)) in
    ap (λ z. found_at z (layers_at bytes z left) key) a ∙ (ap (λ z. found_at z (layers_at bytes (layer_end bytes at) left) key) (sym l) ∙ ap (λ (h : Here). found_at (end_of h.at (length h.layer.cells)) h.later key) v)
