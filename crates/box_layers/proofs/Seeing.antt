-- Steps of a look.
use Rattle.std.proofs.Common.{◌≡◌, ℕ, zero, suc, ◌+◌, ◌≤◌, List, arith, refl, ap, sym, ◌∙◌, min, subst, ◌<◌, [], Bool, true, false, ℤ, pos, Option, Some, None, add-one}
use Rattle.std.specs.Prelude.{◌+ℤ◌, ◌≤ℤ◌}
use Rattle.std.proofs.lemmas.Int.{ints}
use Rattle.machine_core.specs.declared.boxes.Cell.{Cell}
use Rattle.adpcm_nums.specs.LeastValue.{least}
use Rattle.machine_core.specs.Floors.{top}
use Rattle.machine_core.specs.declared.boxes.Bx.{Bx}
use Rattle.machine_core.specs.Boxes.{low_corner, high_corner}
use Rattle.machine_core.specs.Cells.{cell_of}
use Rattle.machine_core.specs.Rules.{Rules, grid}
use Rattle.box_layers.specs.declared.cell_value.CellValue.{CellValue}
use Rattle.box_layers.specs.Cells.{value_of, IsAscending}
use Rattle.box_layers.specs.Bound.{IsBound, past_of}
use Rattle.box_layers.proofs.Bounds.{bound-next}
use Rattle.box_layers.specs.declared.looking.Seen.{Seen}
use Rattle.adpcm_nums.specs.Sample.{IsSample}
use Rattle.box_layers.specs.Looking.{IsCornered, or_else, cell_near, see_of, ended, worth, span_count, look_over}

-- the least over n and what is above it
pub least-split : (n : ℕ) (f : ℕ → ℕ) (a t : ℕ) → a ≤ t → least n f a ≡ min a (least n f t)
unfolding least
least-split zero f a t h = omega arith
least-split (suc n) f a t h = let i = least-split n f a t h in omega arith

ended-some : (b : Bool) (s v r : ℕ) → ended (record { best = min s v; all = b }) r ≡ min (ended (record { best = s; all = b }) r) v
ended-some true s v r = refl
ended-some false s v r = omega arith

ended-none : (b : Bool) (s r : ℕ) → ended (record { best = s; all = false }) r ≡ min (ended (record { best = s; all = b }) r) r
ended-none true s r = refl
ended-none false s r = omega arith

-- one more cell
pub ended-more : (s : Seen) (o : Option ℕ) (r : ℕ) → ended (see_of s o) r ≡ min (ended s r) (or_else o r)
ended-more s (Some v) r = ended-some s.all s.best v r
ended-more s None r = ended-none s.all s.best r

small : (b : Bool) (s r : ℕ) → s ≤ top → r ≤ top → ended (record { best = s; all = b }) r ≤ top
small true s r h q = h
small false s r h q = omega arith

pub ended-small : (s : Seen) (r : ℕ) → s.best ≤ top → r ≤ top → ended s r ≤ top
ended-small s r h q = small s.all s.best r h q

next-cell : (low : Cell) (x y : ℕ) → ◌≡◌ {A = Cell} (record { a = low.a +ℤ pos x; b = (low.b +ℤ pos y) +ℤ pos 1 }) (cell_near low x (y + 1))
next-cell low x y =
    let e : (low.b +ℤ pos y) +ℤ pos 1 ≡ low.b +ℤ pos (y + 1) = omega (arith, ints) in
    let mk : ℤ → Cell = λ z. record { a = low.a +ℤ pos x; b = z } in ap mk e

-- the place goes on with the cell
pub place-more : (cells : List CellValue) (low : Cell) (x y at next : ℕ) → IsAscending cells → IsBound cells (cell_near low x y) at → next ≡ past_of at (value_of cells (cell_near low x y))
    → IsBound cells (cell_near low x (y + 1)) next
place-more cells low x y at next asc b e =
    let n = bound-next cells (low.a +ℤ pos x) (low.b +ℤ pos y) at asc b (value_of cells (cell_near low x y)) refl in
    subst (λ z. IsBound cells (cell_near low x (y + 1)) z) (sym e) (subst (λ (c : Cell). IsBound cells c (past_of at (value_of cells (cell_near low x y)))) (next-cell low x y) n)

pub seen-more : (cells : List CellValue) (low : Cell) (x y r a : ℕ) (s t : Seen) (o : Option ℕ) → ended s r ≡ least y (worth cells low x r) a → o ≡ value_of cells (cell_near low x y) → t ≡ see_of s o
    → ended t r ≡ least (y + 1) (worth cells low x r) a
unfolding least
seen-more cells low x y r a s t o h e q =
    ap (λ (z : Seen). ended z r) q ∙ (ended-more s o r ∙ (ap (λ z. min z (or_else o r)) h ∙ (ap (λ (z : Option ℕ). min (least y (worth cells low x r) a) (or_else z r)) e ∙ ap (λ z. least z (worth cells low x r) a) (sym (add-one y)))))

pub row-more : (cells : List CellValue) (low : Cell) (x width w r : ℕ) (s t : Seen) → w ≡ width → s.best ≤ top → r ≤ top
    → ended s r ≡ least x (λ x'. least width (λ y. or_else (value_of cells (cell_near low x' y)) r) top) top
    → ended t r ≡ least w (worth cells low x r) (ended s r)
    → ended t r ≡ least (x + 1) (λ x'. least width (λ y. or_else (value_of cells (cell_near low x' y)) r) top) top
unfolding least
row-more cells low x width w r s t we b q h e =
    let f : ℕ → ℕ = λ x'. least width (λ y. or_else (value_of cells (cell_near low x' y)) r) top in
    e ∙ (ap (λ z. least z (worth cells low x r) (ended s r)) we ∙ (least-split width (worth cells low x r) (ended s r) top (ended-small s r b q) ∙ (ap (λ z. min z (f x)) h ∙ ap (λ z. least z f top) (sym (add-one x)))))

least-const : (n r t : ℕ) → r ≤ t → 0 < n → least n (λ _. r) t ≡ r
unfolding least
least-const zero r t h p = absurd (omega arith)
least-const (suc zero) r t h p = omega arith
least-const (suc (suc n)) r t h p = let i = least-const (suc n) r t h (omega arith) in omega arith

-- where nothing is listed, a look is worth what an unlisted cell is
pub none-listed : (r : Rules) (level n : ℕ) (bx : Bx) → n ≤ top → min top n ≡ look_over r level (value_of []) n bx
none-listed r level n bx h =
    let low = cell_of (grid r) level (low_corner bx) in
    let high = cell_of (grid r) level (high_corner bx) in
    let inner : least (span_count low.b high.b) (λ _. n) top ≡ n = least-const (span_count low.b high.b) n top h (omega arith) in
    let outer : least (span_count low.a high.a) (λ _. n) top ≡ n = least-const (span_count low.a high.a) n top h (omega arith) in
    let s : min top n ≡ n = omega arith in
    s ∙ (sym outer ∙ ap (λ z. least (span_count low.a high.a) (λ _. z) top) (sym inner))

-- two cells that the code holds are corners
pub cornered : (low high x y : Cell) → x ≡ low → y ≡ high → low.a ≤ℤ high.a → low.b ≤ℤ high.b → IsSample high.a → IsCornered x y
cornered low high x y p q a b small =
    subst (λ (z : Cell). IsCornered z y) (sym p) (subst (λ (z : Cell). IsCornered low z) (sym q) (record { a_order = a; b_order = b; a_small = small.high }))
