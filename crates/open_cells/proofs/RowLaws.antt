-- Rows that lie in layers, when more layers come behind them.
use Rattle.std.proofs.Common.{◌≡◌, ℕ, zero, suc, ◌+◌, ◌-◌, ◌<◌, ◌≤◌, List, [], ◌∷◌, ◌++◌, length, map, take, drop, get_or, arith, refl, ap, sym, ◌∙◌, subst, add-one, length-append}
use Rattle.std.specs.Prelude.{Some, reverse, slice_get}
use mathlib.Core.List.{reverse-cons}
use Rattle.std.proofs.Math.ListN.{drop_of_length-le}
use Rattle.std.proofs.Math.Seq.{drop-append_seam, take-length}
use Rattle.std.proofs.lemmas.List.{append_cancel_left, drop-append-le, append_assoc, get_or-reverse, length-reverse, length-take-le, map-append, take-append-le, take_more}
use Rattle.std.proofs.lemmas.Option.{get_or_from_slice_get, slice_get_within}
use Rattle.std.proofs.lemmas.List.Elements.{All-push}
use Rattle.machine_core.specs.declared.boxes.Cell.{Cell}
use Rattle.box_layers.specs.Layers.{LayerLists}
use Rattle.open_cells.specs.Counts.{nodes_at}
use Rattle.open_cells.specs.declared.node.Node.{Node}
use Rattle.open_cells.specs.declared.row.Row.{Row}
use Rattle.open_cells.specs.Rows.{AreWithin, Grows, layer_nodes, nodes_in, nodes_of, row_in}
use Rattle.open_cells.proofs.Laying.{nodes-append, nodes-last}

row-kept : (old new : List LayerLists) (r : Row) → Grows old new → r.end ≤ length old → row_in new r ≡ row_in old r
unfolding row_in
row-kept old new r g h =
    ap (λ z. nodes_of (drop r.from (take r.end z))) g.is ∙ ap (λ z. nodes_of (drop r.from z)) (take-append-le r.end old g.more h)

pub rows-kept : (old new : List LayerLists) (rows : List Row) → Grows old new → AreWithin (length old) rows → map (row_in new) rows ≡ map (row_in old) rows
rows-kept old new [] g w = refl
rows-kept old new (r ∷ rows) g w =
    ap (λ (z : List Node). z ∷ map (row_in new) rows) (row-kept old new r g (w 0 r (omega arith)).1)
    ∙ ap (λ (z : List (List Node)). row_in old r ∷ z) (rows-kept old new rows g (λ k d h. w (suc k) d (omega arith)))

pub grows-long : (old new : List LayerLists) → Grows old new → length old ≤ length new
grows-long old new g = let a = ap (length {A = LayerLists}) g.is in let b = length-append old g.more in omega arith

pub within-kept : (n m : ℕ) (rows : List Row) → n ≤ m → AreWithin n rows → AreWithin m rows
within-kept n m rows le w k d h = let a = w k d h in (a.0, omega (arith, a.1))

pub within-more : (n m : ℕ) (rows : List Row) (r : Row) → n ≤ m → r.from ≤ r.end → r.end ≤ m → AreWithin n rows → AreWithin m (rows ++ r ∷ [])
within-more n m rows r le o h w = All-push (λ (z : Row). (z.from ≤ z.end) × (z.end ≤ m)) rows r (within-kept n m rows le w) (o, h)

-- the row of the layers that came last
row-new : (old new : List LayerLists) (xs : List Node) (r : Row) → Grows old new → nodes_of new ≡ nodes_of old ++ xs → r.from ≡ length old → r.end ≡ length new → row_in new r ≡ xs
unfolding row_in
row-new old new xs r g ne fe ee =
    let nodes : nodes_of g.more ≡ xs = append_cancel_left (nodes_of old) (nodes_of g.more) xs (sym (nodes-append old g.more) ∙ (ap nodes_of (sym g.is) ∙ ne)) in
    let all : take r.end new ≡ old ++ g.more = ap (λ z. take z new) ee ∙ (take-length new ∙ g.is) in
    ap (λ z. nodes_of (drop r.from z)) all ∙ (ap (λ z. nodes_of (drop z (old ++ g.more))) fe ∙ (ap nodes_of (drop-append_seam old g.more) ∙ nodes))

pub rows-more : (old new : List LayerLists) (rows rows' : List Row) (xs : List Node) (r : Row) → rows' ≡ rows ++ r ∷ [] → Grows old new → AreWithin (length old) rows → nodes_of new ≡ nodes_of old ++ xs
    → r.from ≡ length old → r.end ≡ length new → map (row_in new) rows' ≡ map (row_in old) rows ++ xs ∷ []
rows-more old new rows rows' xs r e g w ne fe ce =
    ap (map (row_in new)) e ∙ (map-append (row_in new) rows (r ∷ []) ∙ (ap (λ (z : List (List Node)). z ++ row_in new r ∷ []) (rows-kept old new rows g w)
    ∙ ap (λ (z : List Node). map (row_in old) rows ++ z ∷ []) (row-new old new xs r g ne fe ce)))

pub rows-turned : (layers : List LayerLists) (rows : List Row) → map (row_in layers) (reverse rows) ≡ reverse (map (row_in layers) rows)
rows-turned layers [] = refl
rows-turned layers (r ∷ rows) =
    ap (map (row_in layers)) (reverse-cons r rows) ∙ (map-append (row_in layers) (reverse rows) (r ∷ [])
    ∙ (ap (λ (z : List (List Node)). z ++ row_in layers r ∷ []) (rows-turned layers rows) ∙ sym (reverse-cons (row_in layers r) (map (row_in layers) rows))))

pub within-turned : (n : ℕ) (rows : List Row) → AreWithin n rows → AreWithin n (reverse rows)
within-turned n rows w k d h =
    let l : length (reverse rows) ≡ length rows = length-reverse rows in
    subst (λ (z : Row). (z.from ≤ z.end) × (z.end ≤ n)) (sym (get_or-reverse rows k d (omega arith))) (w (length rows - 1 - k) d (omega arith))

pub row-at : (layers : List LayerLists) (rows : List Row) (i : ℕ) (d : Row) → i < length rows → row_in layers (get_or rows i d) ≡ nodes_at (map (row_in layers) rows) i
row-at layers [] i d h = absurd (omega arith)
row-at layers (r ∷ rows) zero d h = refl
row-at layers (r ∷ rows) (suc i) d h = row-at layers rows i d (omega arith)

cells-taken : (lane : ℕ) (cells : List Cell) (values : List ℕ) (k : ℕ) (c : Cell) (v : ℕ) → k < length cells → length values ≡ length cells
    → nodes_in lane (take (suc k) cells) (take (suc k) values) ≡ nodes_in lane (take k cells) (take k values) ++ record { lane = lane; cell = get_or cells k c; cost = get_or values k v } ∷ []
cells-taken lane [] values k c v h e = absurd (omega arith)
cells-taken lane (x ∷ cells) [] k c v h e = absurd (omega arith)
cells-taken lane (x ∷ cells) (y ∷ values) zero c v h e = refl
cells-taken lane (x ∷ cells) (y ∷ values) (suc k) c v h e =
    ap (λ (z : List Node). record { lane = lane; cell = x; cost = y } ∷ z) (cells-taken lane cells values k c v (omega arith) (omega arith))

-- one more cell of a layer
pub layer-taken : (old out new : List Node) (lane : ℕ) (cells : List Cell) (values : List ℕ) (k : ℕ) (x : Node) (c : Cell) (v : ℕ) → k < length cells → length values ≡ length cells
    → out ≡ old ++ nodes_in lane (take k cells) (take k values) → x ≡ record { lane = lane; cell = get_or cells k c; cost = get_or values k v } → new ≡ out ++ x ∷ []
    → new ≡ old ++ nodes_in lane (take (k + 1) cells) (take (k + 1) values)
layer-taken old out new lane cells values k x c v h e o xe n =
    n ∙ (ap (λ z. z ++ x ∷ []) o ∙ (append_assoc old (nodes_in lane (take k cells) (take k values)) (x ∷ [])
    ∙ (ap (λ z. old ++ (nodes_in lane (take k cells) (take k values) ++ z ∷ [])) xe
    ∙ ap (λ z. old ++ z) (sym (cells-taken lane cells values k c v h e) ∙ ap (λ z. nodes_in lane (take z cells) (take z values)) (sym (add-one k))))))

-- one more layer of a row
pub row-taken : (layers : List LayerLists) (from k : ℕ) (l : LayerLists) → from ≤ k → slice_get layers k ≡ Some l → nodes_of (drop from (take (k + 1) layers)) ≡ nodes_of (drop from (take k layers)) ++ layer_nodes l
row-taken layers from k l le h =
    let within = slice_get_within layers k l h in
    let front : take (k + 1) layers ≡ take k layers ++ l ∷ [] = take_more layers k l within ∙ ap (λ z. take k layers ++ z ∷ []) (get_or_from_slice_get layers k l l h) in
    let long = length-take-le k layers (omega arith) in
    ap (λ z. nodes_of (drop from z)) front ∙ (ap nodes_of (drop-append-le from (take k layers) (l ∷ []) (omega arith)) ∙ nodes-last (drop from (take k layers)) l)

pub row-begins : (layers : List LayerLists) (from : ℕ) → from ≤ length layers → nodes_of (drop from (take from layers)) ≡ []
unfolding nodes_of
row-begins layers from h =
    ap nodes_of (drop_of_length-le (take from layers) (let e = length-take-le from layers h in omega arith))
