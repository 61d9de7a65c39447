-- A search from a place on, charged to the places before it.
use Rattle.std.proofs.Common.{◌≡◌, ℕ, zero, suc, ◌+◌, ◌-◌, ◌*◌, ◌<◌, ◌≤◌, arith, ap, subst, ◌∙◌, sym, refl, ◌⊎◌, inl, inr}
use Rattle.std.specs.Prelude.{ℤ, pos, ◌*ℤ◌, List, [], ◌∷◌, length, drop, take, get_or}
use Rattle.std.proofs.Math.IntN.{zero-*ℤ}
use Rattle.std.proofs.lemmas.Int.{ints}
use Rattle.std.proofs.lemmas.List.{length-drop, take_all, drop_more}
use Rattle.adpcm_nums.specs.Nums.{square_of}
use Rattle.row_bound.specs.declared.row.Row.{Row}
use Rattle.row_bound.specs.declared.layer.Layer.{Layer}
use Rattle.row_bound.specs.Rows.{Fits}
use Rattle.row_bound.specs.Flat.{IsOlderFree, IsLastFree, IsAlone}
use Rattle.row_bound.specs.Paths.{IsChoice, moved, first, second, Path, done, by_layer, Owes, OwesFrom}
use Rattle.row_bound.proofs.BoundLaws.{drop-at, drop-end, next}

-- a layer's rows weigh the same
weighs : (steps : List ℤ) (layer : Layer) (w : Row) → IsChoice steps layer w → w.weight ≡ layer.base.weight
weighs steps layer w (moved i h m) = m.weight
weighs steps layer w (first e) = ap (λ (r : Row). r.weight) e ∙ layer.first_weighs
weighs steps layer w (second e) = ap (λ (r : Row). r.weight) e ∙ layer.second_weighs

weighed : (w n s : ℕ) → w ≡ n → n * s ≡ w * s
weighed w n s e = ap (λ t. t * s) (sym e)

-- the errors that the search starts from are those of the two places before
two-steps : (steps : List ℤ) (v u : Row) (a b : Layer) (rest : List Layer) (n : ℕ) → v.weight ≡ a.base.weight → u.weight ≡ b.base.weight → OwesFrom steps v u [] rest n → Owes steps (a ∷ (b ∷ rest)) n
two-steps steps v u a b rest n hv hu owes x y _ (by_layer _ _ _ _ z _ w i f (by_layer _ _ _ _ t c r k g path)) =
    let o = owes z t c path in
    let p = weighed w.weight v.weight (square_of z) (weighs steps a w i ∙ sym hv) in
    let q = weighed r.weight u.weight (square_of t) (weighs steps b r k ∙ sym hu) in omega (arith, o, p, q)

older-none : (steps : List ℤ) (layer : Layer) (w : Row) → IsOlderFree layer → IsChoice steps layer w → w.b ≡ pos 0
older-none steps layer w free (moved i h m) = m.b ∙ free.base
older-none steps layer w free (first e) = ap (λ (r : Row). r.b) e ∙ free.first
older-none steps layer w free (second e) = ap (λ (r : Row). r.b) e ∙ free.second

last-none : (steps : List ℤ) (layer : Layer) (w : Row) → IsLastFree layer → IsChoice steps layer w → w.a ≡ pos 0
last-none steps layer w free (moved i h m) = m.a ∙ free.base
last-none steps layer w free (first e) = ap (λ (r : Row). r.a) e ∙ free.first
last-none steps layer w free (second e) = ap (λ (r : Row). r.a) e ∙ free.second

none-times : (b x y : ℤ) → b ≡ pos 0 → b *ℤ x ≡ b *ℤ y
none-times b x y e = let p = zero-*ℤ x in let q = zero-*ℤ y in rw e (p ∙ sym q)

-- a row that does not ask for an error fits any
fits-older : (w : Row) (x y z t : ℤ) → w.b ≡ pos 0 → Fits w x y z → Fits w x t z
fits-older w x y z t e f =
    let k = none-times w.b y t e in
    let low = f.low in let high = f.high in
    record { low = omega (arith, ints, k, low); high = omega (arith, ints, k, high); at = f.at }

fits-last : (w : Row) (x y z t : ℤ) → w.a ≡ pos 0 → Fits w x y z → Fits w t y z
fits-last w x y z t e f =
    let k = none-times w.a x t e in
    let low = f.low in let high = f.high in
    record { low = omega (arith, ints, k, low); high = omega (arith, ints, k, high); at = f.at }

older-any : (steps : List ℤ) (layer : Layer) (rest : List Layer) (x y t : ℤ) (c : ℕ) → IsOlderFree layer → Path steps [] (layer ∷ rest) x y c → Path steps [] (layer ∷ rest) x t c
older-any steps layer rest x y t _ free (by_layer _ _ _ _ z c w i f path) = by_layer layer rest x t z c w i (fits-older w x y z t (older-none steps layer w free i) f) path

nothing : square_of (pos 0) ≡ 0
nothing = refl

-- the older error is chosen as 0
one-step : (steps : List ℤ) (v u : Row) (b here : Layer) (rest : List Layer) (n : ℕ) → u.weight ≡ b.base.weight → IsOlderFree here → OwesFrom steps v u [] (here ∷ rest) n → Owes steps (b ∷ (here ∷ rest)) n
one-step steps v u b here rest n hu free owes x y _ (by_layer _ _ _ _ z c w i f path) =
    let o = owes (pos 0) z c (older-any steps here rest z x (pos 0) c free path) in
    let q = weighed w.weight u.weight (square_of z) (weighs steps b w i ∙ sym hu) in omega (arith, o, q)

-- both errors are chosen as 0
no-step-last : (steps : List ℤ) (v u : Row) (here : Layer) (n : ℕ) → IsOlderFree here → IsLastFree here → OwesFrom steps v u [] (here ∷ []) n → Owes steps (here ∷ []) n
no-step-last steps v u here n older last owes x y _ (by_layer _ _ _ _ z _ w i f (done _ _)) =
    let g = fits-last w x (pos 0) z (pos 0) (last-none steps here w last i) (fits-older w x y z (pos 0) (older-none steps here w older i) f) in
    let o = owes (pos 0) (pos 0) _ (by_layer here [] (pos 0) (pos 0) z 0 w i g (done z (pos 0))) in omega (arith, o)

no-step : (steps : List ℤ) (v u : Row) (here following : Layer) (rest : List Layer) (n : ℕ) → IsOlderFree here → IsLastFree here → IsOlderFree following → OwesFrom steps v u [] (here ∷ (following ∷ rest)) n
    → Owes steps (here ∷ (following ∷ rest)) n
no-step steps v u here following rest n older last free owes x y _ (by_layer _ _ _ _ z c w i f path) =
    let g = fits-last w x (pos 0) z (pos 0) (last-none steps here w last i) (fits-older w x y z (pos 0) (older-none steps here w older i) f) in
    let p = older-any steps following rest z x (pos 0) c free path in
    let o = owes (pos 0) (pos 0) _ (by_layer here (following ∷ rest) (pos 0) (pos 0) z c w i g p) in omega (arith, o)

-- a floor of a path's end is one of the path
longer : (steps : List ℤ) (a : Layer) (rest : List Layer) (n : ℕ) → Owes steps rest n → Owes steps (a ∷ rest) n
longer steps a rest n owes x y _ (by_layer _ _ _ _ z c w i f path) = let o = owes z x c path in omega (arith, o)

at : (ls : List Layer) (i j : ℕ) (any : Layer) → suc i ≡ j → i < length ls → drop i ls ≡ get_or ls i any ∷ drop j ls
at ls i j any e h = drop_more ls i any h ∙ ap (λ k. get_or ls i any ∷ drop k ls) (sym (next i) ∙ e)

end-next : (steps : List ℤ) (ls : List Layer) (i n : ℕ) → i < length ls → Owes steps (drop (suc i) ls) n → Owes steps (drop i ls) n
end-next steps [] i n h owes = absurd (omega (arith, h))
end-next steps (l ∷ ls) zero n h owes = longer steps l ls n owes
end-next steps (l ∷ ls) (suc i) n h owes = end-next steps ls i n (omega (arith, h)) owes

pub end-owes : (steps : List ℤ) (ls : List Layer) (i j n : ℕ) → suc i ≡ j → i < length ls → Owes steps (drop j ls) n → Owes steps (drop i ls) n
end-owes steps ls i j n e h owes =
    let d : drop (suc i) ls ≡ drop j ls = ap (λ k. drop k ls) e in
    end-next steps ls i n h (subst (λ (l : List Layer). Owes steps l n) (sym d) owes)

two-places : (steps : List ℤ) (v u : Row) (ls : List Layer) (j n : ℕ) (any : Layer) → v.weight ≡ (get_or ls (j - 2) any).base.weight → u.weight ≡ (get_or ls (j - 1) any).base.weight
    → 2 ≤ j → j ≤ length ls → OwesFrom steps v u [] (drop j ls) n → Owes steps (drop (j - 2) ls) n
two-places steps v u ls j n any hv hu low high owes =
    let a = get_or ls (j - 2) any in
    let b = get_or ls (j - 1) any in
    let one = at ls (j - 2) (j - 1) any (omega (arith, low)) (omega (arith, low, high)) in
    let two = at ls (j - 1) j any (omega (arith, low)) (omega (arith, low, high)) in
    subst (λ (l : List Layer). Owes steps l n) (sym (one ∙ ap (λ l. a ∷ l) two)) (two-steps steps v u a b (drop j ls) n hv hu owes)

one-place : (steps : List ℤ) (v u : Row) (ls : List Layer) (j n : ℕ) (here : Layer) → here ≡ get_or ls j here → u.weight ≡ (get_or ls (j - 1) here).base.weight → IsOlderFree here
    → 1 ≤ j → j < length ls → OwesFrom steps v u [] (drop j ls) n → Owes steps (drop (j - 1) ls) n
one-place steps v u ls j n here eh hu free low high owes =
    let b = get_or ls (j - 1) here in
    let one = at ls (j - 1) j here (omega (arith, low)) (omega (arith, low, high)) in
    let two = drop-at ls j here high eh in
    subst (λ (l : List Layer). Owes steps l n) (sym (one ∙ ap (λ l. b ∷ l) two)) (one-step steps v u b here (drop (suc j) ls) n hu free (subst (λ (l : List Layer). OwesFrom steps v u [] l n) two owes))

no-place : (steps : List ℤ) (v u : Row) (ls : List Layer) (j n : ℕ) (here following : Layer) → here ≡ get_or ls j here → (j + 1 < length ls → following ≡ get_or ls (j + 1) following) → IsOlderFree here → IsLastFree here → IsOlderFree following
    → j < length ls → OwesFrom steps v u [] (drop j ls) n → Owes steps (drop j ls) n
no-place steps v u ls j n here following eh ef older last free high owes =
    let one = drop-at ls j here high eh ∙ ap (λ k. here ∷ drop k ls) (next j) in
    let c : (j + 1 < length ls) ⊎ (length ls ≤ j + 1) = grind arith in
    elim c [
      | inl more ↦ (
          let e = one ∙ ap (λ l. here ∷ l) (drop-at ls (j + 1) following more (ef more)) in
          subst (λ (l : List Layer). Owes steps l n) (sym e) (no-step steps v u here following (drop (suc (j + 1)) ls) n older last free (subst (λ (l : List Layer). OwesFrom steps v u [] l n) e owes)))
      | inr end ↦ (
          let e = one ∙ ap (λ l. here ∷ l) (drop-end ls (j + 1) end) in
          subst (λ (l : List Layer). Owes steps l n) (sym e) (no-step-last steps v u here n older last (subst (λ (l : List Layer). OwesFrom steps v u [] l n) e owes)))
    ]

pub place-as : (steps : List ℤ) (layers : List Layer) (i j n : ℕ) → i ≡ j → Owes steps (drop i layers) n → Owes steps (drop j layers) n
place-as steps layers i j n e o = subst (λ (k : ℕ). Owes steps (drop k layers) n) e o

-- a search is charged to the places before it that its rows ask for
pub charged : (steps : List ℤ) (v u : Row) (ls : List Layer) (j taps n : ℕ) (here following : Layer) → here ≡ get_or ls j here → (j + 1 < length ls → following ≡ get_or ls (j + 1) following) → IsAlone here following taps
    → (2 ≤ taps → (any : Layer) → v.weight ≡ (get_or ls (j - 2) any).base.weight) → (1 ≤ taps → (any : Layer) → u.weight ≡ (get_or ls (j - 1) any).base.weight) → taps ≤ 2 → taps ≤ j → j < length ls
    → OwesFrom steps v u [] (drop j ls) n → Owes steps (drop (j - taps) ls) n
charged steps v u ls j zero n here following eh ef alone hv hu most low high owes =
    place-as steps ls j (j - 0) n (omega arith) (no-place steps v u ls j n here following eh ef (alone.older (omega arith)) (alone.last (omega arith)) (alone.next (omega arith)) high owes)
charged steps v u ls j (suc zero) n here following eh ef alone hv hu most low high owes =
    one-place steps v u ls j n here eh (hu (omega arith) here) (alone.older (omega arith)) low high owes
charged steps v u ls j (suc (suc zero)) n here following eh ef alone hv hu most low high owes =
    two-places steps v u ls j n here (hv (omega arith) here) (hu (omega arith) here) low (omega (arith, high)) owes
charged steps v u ls j (suc (suc (suc k))) n here following eh ef alone hv hu most low high owes = absurd (omega (arith, most))

pub from-slice : (steps : List ℤ) (v u : Row) (ls : List Layer) (j n : ℕ) → OwesFrom steps v u [] (take (length ls - j) (drop j ls)) n → OwesFrom steps v u [] (drop j ls) n
from-slice steps v u ls j n h = let l = length-drop j ls in subst (λ (k : List Layer). OwesFrom steps v u [] k n) (take_all (length ls - j) (drop j ls) (omega (arith, l))) h

-- what stands at a place within a list does not depend on what would stand past its end
pub any-at : (ls : List Layer) (i : ℕ) (a b : Layer) → i < length ls → get_or ls i a ≡ get_or ls i b
any-at [] i a b h = absurd (omega (arith, h))
any-at (l ∷ ls) zero a b h = refl
any-at (l ∷ ls) (suc i) a b h = any-at ls i a b (omega (arith, h))
