-- Runs of nodes as layers.
use Rattle.std.proofs.Common.{◌≡◌, ℕ, suc, ◌+◌, ◌-◌, ◌<◌, ◌≤◌, ◌⊎◌, inl, inr, List, [], ◌∷◌, ◌++◌, length, take, get_or, arith, refl, ap, sym, ◌∙◌, subst, true, Ok, Err, OnOk, OnErr, length-append}
use Rattle.std.specs.Prelude.{IsTrue, Result, nat_lt}
use Rattle.std.proofs.lemmas.Bool.{cond-true, lt-ltb}
use Rattle.std.proofs.lemmas.Grind.{flat_map-append}
use Rattle.std.proofs.lemmas.List.{append-nil, append_assoc, get_or-take, get_or_default, length-take-le}
use Rattle.adpcm_nums.specs.declared.no_memory.NoMemory.{NoMemory}
use Rattle.machine_core.specs.declared.boxes.Cell.{Cell}
use Rattle.box_layers.specs.declared.cell_value.CellValue.{CellValue}
use Rattle.box_layers.specs.declared.key.Key.{Key}
use Rattle.box_layers.specs.Cells.{before, IsAfterAll, IsAscending}
use Rattle.box_layers.specs.Keys.{key_before}
use Rattle.box_layers.specs.Layers.{IsAbove, LayerLists}
use Rattle.box_layers.specs.Pairs.{paired}
use Rattle.box_layers.proofs.CellOrder.{lt-trans}
use Rattle.open_cells.specs.declared.node.Node.{Node}
use Rattle.open_cells.specs.Rows.{AreNumbered, Follows, Grows, IsRun, cells_of, costs_of, layer_nodes, nodes_in, nodes_of}

less-or-last : (k n : ℕ) → k < n + 1 → (k < n) ⊎ (k ≡ n)
less-or-last k n h = grind arith

pub run-one : (xs : List Node) → IsRun xs 1
run-one xs k d h = absurd (omega arith)

pub run-more : (xs : List Node) (n : ℕ) (d : Node) → IsRun xs n → 0 < n → n < length xs → Follows (get_or xs (n - 1) d) (get_or xs n d) → IsRun xs (n + 1)
run-more xs n d r some h f k e l =
    elim (less-or-last (suc k) n l) [
      | inl lt ↦ r k e lt
      | inr is ↦ (let kn : n - 1 ≡ k = omega arith in
          subst (λ z. Follows (get_or xs k e) z) (ap (λ j. get_or xs j d) (sym is) ∙ get_or_default xs (suc k) d e (omega arith))
          (subst (λ z. Follows z (get_or xs n d)) (ap (λ j. get_or xs j d) kn ∙ get_or_default xs k d e (omega arith)) f))
    ]

pub run-front : (xs : List Node) (n : ℕ) → n ≤ length xs → IsRun xs n → IsRun (take n xs) (length (take n xs))
run-front xs n le r k d h =
    let e = length-take-le n xs le in
    let lt : suc k < n = omega arith in
    subst (λ z. Follows (get_or (take n xs) k d) z) (sym (get_or-take n xs (suc k) d lt))
    (subst (λ z. Follows z (get_or xs (suc k) d)) (sym (get_or-take n xs k d (omega arith))) (r k d lt))

run-rest : (x : Node) (xs : List Node) → IsRun (x ∷ xs) (length (x ∷ xs)) → IsRun xs (length xs)
run-rest x xs r k d h = r (suc k) d (omega arith)

after-from : (c d : Cell) (xs : List CellValue) → before c d ≡ true → IsAfterAll d xs → IsAfterAll c xs
after-from c d [] h a = tt
after-from c d (x ∷ xs) h a = (lt-trans c d x.cell h a.0, after-from c d xs h a.1)

pub run-ascends : (xs : List Node) → IsRun xs (length xs) → IsAscending (paired (cells_of xs) (costs_of xs))
run-ascends [] r = tt
run-ascends (x ∷ []) r = (tt, tt)
run-ascends (x ∷ y ∷ ys) r =
    let rest = run-ascends (y ∷ ys) (run-rest x (y ∷ ys) r) in
    let f = r 0 x (omega arith) in
    ((f.after, after-from x.cell y.cell (paired (cells_of ys) (costs_of ys)) f.after rest.0), rest)

node-is : (x : Node) (lane : ℕ) → x.lane ≡ lane → record { lane = lane; cell = x.cell; cost = x.cost } ≡ x
node-is x lane e = let mk : ℕ → Node = λ z. record { lane = z; cell = x.cell; cost = x.cost } in ap mk (sym e)

pub run-nodes : (xs : List Node) (lane : ℕ) (d : Node) → IsRun xs (length xs) → lane ≡ (get_or xs 0 d).lane → nodes_in lane (cells_of xs) (costs_of xs) ≡ xs
run-nodes [] lane d r e = refl
run-nodes (x ∷ []) lane d r e = ap (λ (z : Node). z ∷ []) (node-is x lane (sym e))
run-nodes (x ∷ y ∷ ys) lane d r e =
    let f = r 0 x (omega arith) in
    let rest = run-nodes (y ∷ ys) lane y (run-rest x (y ∷ ys) r) (e ∙ sym f.lane_is) in
    ap (λ (z : Node). z ∷ nodes_in lane (cells_of (y ∷ ys)) (costs_of (y ∷ ys))) (node-is x lane (sym e)) ∙ ap (λ (z : List Node). x ∷ z) rest

before-number : (j : Key) (n lane : ℕ) → j.block < n → IsTrue (key_before j (record { block = n; place = 0; lane = lane }))
unfolding key_before
before-number j n lane h = cond-true (nat_lt j.block n) _ _ (lt-ltb j.block n h)

pub number-above : (n lane : ℕ) (ls : List LayerLists) → AreNumbered n ls → IsAbove (record { block = n; place = 0; lane = lane }) ls
number-above n lane [] h = tt
number-above n lane (l ∷ ls) h = (before-number l.key n lane h.0, number-above n lane ls h.1)

numbered-more : (n m : ℕ) (ls : List LayerLists) (l : LayerLists) → n ≤ m → l.key.block < m → AreNumbered n ls → AreNumbered m (ls ++ l ∷ [])
numbered-more n m [] l le lt h = (lt, tt)
numbered-more n m (x ∷ ls) l le lt h = (omega (arith, h.0), numbered-more n m ls l le lt h.1)

numbered-last : (ls : List LayerLists) (l : LayerLists) → l.key.block ≡ length ls → AreNumbered (length ls) ls → AreNumbered (length (ls ++ l ∷ [])) (ls ++ l ∷ [])
numbered-last ls l e h =
    let n : length (ls ++ l ∷ []) ≡ length ls + 1 = length-append ls (l ∷ []) in
    numbered-more (length ls) (length (ls ++ l ∷ [])) ls l (omega arith) (omega arith) h

-- whether a layer was placed or refused
pub numbered-now : (r : Result (Unit {0}) NoMemory) (old new : List LayerLists) (l : LayerLists) → OnOk r (new ≡ old ++ l ∷ []) → OnErr r (new ≡ old) → l.key.block ≡ length old
    → AreNumbered (length old) old → AreNumbered (length new) new
numbered-now (Ok u) old new l ok err e h = subst (λ (z : List LayerLists). AreNumbered (length z) z) (sym ok) (numbered-last old l e h)
numbered-now (Err f) old new l ok err e h = subst (λ (z : List LayerLists). AreNumbered (length z) z) (sym err) h

pub grows-none : (old new : List LayerLists) → new ≡ old → Grows old new
grows-none old new e = record { more = []; is = e ∙ sym (append-nil old) }

pub grows-now : (r : Result (Unit {0}) NoMemory) (old new : List LayerLists) (l : LayerLists) → OnOk r (new ≡ old ++ l ∷ []) → OnErr r (new ≡ old) → Grows old new
grows-now (Ok u) old new l ok err = record { more = l ∷ []; is = ok }
grows-now (Err f) old new l ok err = grows-none old new err

pub grows-on : (old mid new : List LayerLists) → Grows old mid → Grows mid new → Grows old new
grows-on old mid new a b = record { more = a.more ++ b.more; is = b.is ∙ (ap (λ (z : List LayerLists). z ++ b.more) a.is ∙ append_assoc old a.more b.more) }

pub nodes-append : (ls more : List LayerLists) → nodes_of (ls ++ more) ≡ nodes_of ls ++ nodes_of more
unfolding nodes_of
nodes-append ls more = flat_map-append layer_nodes ls more

nodes-one : (l : LayerLists) → nodes_of (l ∷ []) ≡ layer_nodes l
unfolding nodes_of
nodes-one l = append-nil (layer_nodes l)

pub nodes-last : (ls : List LayerLists) (l : LayerLists) → nodes_of (ls ++ l ∷ []) ≡ nodes_of ls ++ layer_nodes l
nodes-last ls l = nodes-append ls (l ∷ []) ∙ ap (λ (z : List Node). nodes_of ls ++ z) (nodes-one l)

-- the nodes of a run lie in the layer that was placed
pub nodes-now : (r : Result (Unit {0}) NoMemory) (old new : List LayerLists) (key : Key) (cells : List Cell) (values : List ℕ) (xs : List Node) (d : Node) → OnOk r (new ≡ old ++ record { key = key; cells = cells; values = values } ∷ [])
    → IsRun xs (length xs) → key.lane ≡ (get_or xs 0 d).lane → cells ≡ cells_of xs → values ≡ costs_of xs → OnOk r (nodes_of new ≡ nodes_of old ++ xs)
nodes-now (Ok u) old new key cells values xs d ok run le ce ve =
    ap nodes_of ok ∙ (nodes-last old (record { key = key; cells = cells; values = values }) ∙ ap (λ (z : List Node). nodes_of old ++ z)
    (ap (λ z. nodes_in key.lane z values) ce ∙ (ap (λ z. nodes_in key.lane (cells_of xs) z) ve ∙ run-nodes xs key.lane d run le)))
nodes-now (Err f) old new key cells values xs d ok run le ce ve = ok
