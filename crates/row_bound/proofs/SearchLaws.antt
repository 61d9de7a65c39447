-- A search over the rows of a layer.
use Rattle.std.proofs.Common.{◌≡◌, ℕ, zero, suc, ◌+◌, ◌<◌, ◌≤◌, arith, ap, subst, ◌∙◌, sym, refl}
use Rattle.std.specs.Prelude.{ℤ, List, [], ◌∷◌, ◌++◌, length, drop, take, get_or}
use Rattle.row_bound.specs.declared.row.Row.{Row}
use Rattle.row_bound.specs.declared.layer.Layer.{Layer}
use Rattle.row_bound.specs.declared.done.Done.{Done}
use Rattle.row_bound.specs.Paths.{IsChoice, moved, first, second, Path, by_row, by_layer, OwesFrom}
use Rattle.row_bound.specs.Guards.{Searched, left_of}
use Rattle.row_bound.proofs.BoundLaws.{drop-at, next}

-- a path takes one row of the next layer
branch : (steps : List ℤ) (ws : List Row) (layer : Layer) (layers : List Layer) (x y : ℤ) (c : ℕ) → Path steps ws (layer ∷ layers) x y c → (w : Row) × IsChoice steps layer w × Path steps (ws ++ (w ∷ [])) layers x y c
branch steps [] layer layers x y _ (by_layer _ _ _ _ z c w i f p) = (w, i, by_row w [] layers x y z c f p)
branch steps (v ∷ ws) layer layers x y _ (by_row _ _ _ _ _ z c f p) =
    let t = branch steps ws layer layers z x c p in (t.0, t.1, by_row v (ws ++ (t.0 ∷ [])) layers x y z c f t.2)

at-choice : (steps : List ℤ) (v u : Row) (ws : List Row) (layer : Layer) (layers : List Layer) (d : Done) (t : ℕ) (w : Row) → Searched steps v u ws layers layer d t → left_of (length steps) d ≡ 0
    → IsChoice steps layer w → OwesFrom steps v u (ws ++ (w ∷ [])) layers t
at-choice steps v u ws layer layers d t w s h (moved i k m) = s.free i w (omega (arith, h)) (omega (arith, h, k)) m
at-choice steps v u ws layer layers d t w s h (first e) = subst (λ (r : Row). OwesFrom steps v u (ws ++ (r ∷ [])) layers t) (sym e) (s.first (omega (arith, h)))
at-choice steps v u ws layer layers d t w s h (second e) = subst (λ (r : Row). OwesFrom steps v u (ws ++ (r ∷ [])) layers t) (sym e) (s.second (omega (arith, h)))

-- no row is left to search
pub searched-all : (steps : List ℤ) (v u : Row) (ws : List Row) (layer : Layer) (layers all : List Layer) (d : Done) (t : ℕ) → Searched steps v u ws layers layer d t → left_of (length steps) d ≡ 0 → all ≡ layer ∷ layers
    → OwesFrom steps v u ws all t
searched-all steps v u ws layer layers all d t s h e =
    rw e (λ y x c path.
    let b = branch steps ws layer layers x y c path in
    at-choice steps v u ws layer layers d t b.0 s h b.1 y x c b.2)

-- none is searched yet
pub searched-none : (steps : List ℤ) (v u : Row) (ws : List Row) (layers : List Layer) (layer : Layer) (d : Done) (t : ℕ) → d.high ≡ d.low → d.apart ≡ 0 → Searched steps v u ws layers layer d t
searched-none steps v u ws layers layer d t e a = record {
  free = λ i w low high m. absurd (omega (arith, e, low, high));
  first = λ h. absurd (omega (arith, a, h));
  second = λ h. absurd (omega (arith, a, h));
}

-- a lesser number is owed too
pub searched-less : (steps : List ℤ) (v u : Row) (ws : List Row) (layers : List Layer) (layer : Layer) (d : Done) (t s : ℕ) → s ≤ t → Searched steps v u ws layers layer d t → Searched steps v u ws layers layer d s
searched-less steps v u ws layers layer d t s h k = record {
  free = λ i w low high m y x c path. let o = k.free i w low high m y x c path in omega (arith, o, h);
  first = λ a y x c path. let o = k.first a y x c path in omega (arith, o, h);
  second = λ a y x c path. let o = k.second a y x c path in omega (arith, o, h);
}

pub layers-at : (ls : List Layer) (i : ℕ) (x : Layer) → i < length ls → x ≡ get_or ls i x → drop i ls ≡ x ∷ drop (i + 1) ls
layers-at ls i x h e = drop-at ls i x h e ∙ ap (λ j. x ∷ drop j ls) (next i)

pub rows-as : (steps : List ℤ) (v u : Row) (ws vs : List Row) (layers : List Layer) (t : ℕ) → ws ≡ vs → OwesFrom steps v u ws layers t → OwesFrom steps v u vs layers t
rows-as steps v u ws vs layers t e o = subst (λ (l : List Row). OwesFrom steps v u l layers t) e o

take-in : (k : ℕ) (xs : List Row) → take k (take (suc k) xs) ≡ take k xs
take-in zero xs = refl
take-in (suc k) [] = refl
take-in (suc k) (x ∷ xs) = ap (λ l. x ∷ l) (take-in k xs)

-- fewer rows are kept too
pub kept-less : (k n : ℕ) (xs ys : List Row) → n ≡ suc k → take n xs ≡ take n ys → take k xs ≡ take k ys
kept-less k n xs ys e h =
    let f : take (suc k) xs ≡ take (suc k) ys = ap (λ m. take m xs) (sym e) ∙ (h ∙ ap (λ m. take m ys) e) in
    sym (take-in k xs) ∙ (ap (take k) f ∙ take-in k ys)

-- the number that was found
pub searched-as : (steps : List ℤ) (v u : Row) (ws : List Row) (layers : List Layer) (layer : Layer) (d : Done) (t s : ℕ) → s ≡ t → Searched steps v u ws layers layer d t → Searched steps v u ws layers layer d s
searched-as steps v u ws layers layer d t s e k = subst (λ (x : ℕ). Searched steps v u ws layers layer d x) (sym e) k
