-- The layers of a block, filled from its last place down.
use Rattle.std.proofs.Common.{◌≡◌, ℕ, zero, suc, ◌+◌, ◌-◌, ◌<◌, arith, ap, subst, ◌∙◌, sym, refl}
use Rattle.std.specs.Prelude.{ℤ, pos, Bool, List, [], ◌∷◌, length, drop, get_or, slice_set}
use Rattle.std.proofs.lemmas.List.{length-drop}
use Rattle.std.proofs.lemmas.Grind.{drop-set_at}
use Rattle.row_bound.specs.declared.layer.Layer.{Layer}
use Rattle.row_bound.proofs.BoundLaws.{drop-end}
use Rattle.window_floor.specs.Windows.{Windows}
use Rattle.block_bounds.specs.Outputs.{weight_of}
use Rattle.block_bounds.specs.Covers.{Covers, LayersFor, none, more}

-- the layers from place p on stand for the targets from there on
pub record FilledFrom (b : Windows) (leaving : Bool) (targets : List ℤ) (layers : List Layer) (p : ℕ) : Type 0 where
  pub all : LayersFor b leaving (drop (p + 2) targets) (get_or targets p (pos 0)) (get_or targets (p + 1) (pos 0)) (drop p layers)

drop-get : (xs : List ℤ) (i : ℕ) → i < length xs → drop i xs ≡ get_or xs i (pos 0) ∷ drop (suc i) xs
drop-get [] i h = absurd (omega (arith, h))
drop-get (x ∷ xs) zero h = refl
drop-get (x ∷ xs) (suc i) h = drop-get xs i (omega (arith, h))

both-empty : (b : Windows) (leaving : Bool) (ts : List ℤ) (r o : ℤ) (layers : List Layer) → ts ≡ [] → layers ≡ [] → LayersFor b leaving ts r o layers
both-empty b leaving ts r o layers e f = rw (e, f) (none r o)

pub filled-none : (b : Windows) (leaving : Bool) (targets : List ℤ) (layers : List Layer) (p : ℕ) → length layers ≡ p → length targets ≡ p + 2 → FilledFrom b leaving targets layers p
filled-none b leaving targets layers p e f = record { all = both-empty b leaving _ _ _ _ (drop-end targets (p + 2) (omega (arith, f))) (drop-end layers p (omega (arith, e))) }

next-layer : (b : Windows) (leaving : Bool) (ts us : List ℤ) (r o x : ℤ) (layers ls : List Layer) (layer : Layer) (weight : ℕ) → ts ≡ x ∷ us → layers ≡ layer ∷ ls → weight ≡ weight_of leaving (length us)
    → Covers b r o x weight layer → LayersFor b leaving us o x ls → LayersFor b leaving ts r o layers
next-layer b leaving ts us r o x layers ls layer weight e f g c rest =
    rw (e, f) (more x us r o layer ls (subst (λ (n : ℕ). Covers b r o x n layer) g c) rest)

pub filled-more : (b : Windows) (leaving : Bool) (targets : List ℤ) (layers : List Layer) (p n weight : ℕ) (layer : Layer) → n ≡ p + 1 → p < length layers → length targets ≡ length layers + 2 → weight ≡ weight_of leaving (length layers - n)
    → Covers b (get_or targets p (pos 0)) (get_or targets (p + 1) (pos 0)) (get_or targets (p + 2) (pos 0)) weight layer
    → FilledFrom b leaving targets layers n → FilledFrom b leaving targets (slice_set layers p layer) p
filled-more b leaving targets layers p n weight layer en h len ew c rest =
    let next : suc (p + 2) ≡ n + 2 = omega (arith, en) in
    let ts : drop (p + 2) targets ≡ get_or targets (p + 2) (pos 0) ∷ drop (n + 2) targets =
    drop-get targets (p + 2) (omega (arith, h, len)) ∙ ap (λ i. get_or targets (p + 2) (pos 0) ∷ drop i targets) next in
    let ls : drop p (slice_set layers p layer) ≡ layer ∷ drop n layers = drop-set_at layers p p layer refl h ∙ ap (λ i. layer ∷ drop i layers) (sym en) in
    let count : length (drop (n + 2) targets) ≡ length layers - n = (let l = length-drop (n + 2) targets in omega (arith, l, len)) in
    let o : get_or targets n (pos 0) ≡ get_or targets (p + 1) (pos 0) = ap (λ i. get_or targets i (pos 0)) en in
    let x : get_or targets (n + 1) (pos 0) ≡ get_or targets (p + 2) (pos 0) = (let k : n + 1 ≡ p + 2 = omega (arith, en) in ap (λ i. get_or targets i (pos 0)) k) in
    let tail : LayersFor b leaving (drop (n + 2) targets) (get_or targets (p + 1) (pos 0)) (get_or targets (p + 2) (pos 0)) (drop n layers) =
    subst (λ (t : ℤ). LayersFor b leaving (drop (n + 2) targets) t (get_or targets (p + 2) (pos 0)) (drop n layers)) o
    (subst (λ (t : ℤ). LayersFor b leaving (drop (n + 2) targets) (get_or targets n (pos 0)) t (drop n layers)) x rest.all) in
    record { all = next-layer b leaving _ _ _ _ _ _ _ layer weight ts ls (ew ∙ ap (weight_of leaving) (sym count)) c tail }

-- the numbers of a layer, as the code holds them
pub covers-as : (b : Windows) (r o x r' o' x' : ℤ) (weight : ℕ) (layer : Layer) → r' ≡ r → o' ≡ o → x' ≡ x → Covers b r' o' x' weight layer → Covers b r o x weight layer
covers-as b r o x r' o' x' weight layer er eo ex c = rw (sym er, sym eo, sym ex) c

pub filled-all : (b : Windows) (leaving : Bool) (targets : List ℤ) (layers : List Layer) (p : ℕ) → p ≡ 0 → FilledFrom b leaving targets layers p → LayersFor b leaving (drop 2 targets) (get_or targets 0 (pos 0)) (get_or targets 1 (pos 0)) layers
filled-all b leaving targets layers p e f = (subst (λ (i : ℕ). FilledFrom b leaving targets layers i) e f).all
