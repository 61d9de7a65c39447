-- Cells put into layers one after another.
use Rattle.std.proofs.Common.{◌≡◌, ◌≢◌, ℕ, zero, suc, ◌+◌, ◌/◌, ◌%◌, ◌<◌, ◌≤◌, inl, inr, List, [], ◌∷◌, ◌++◌, length, get_or, drop, arith, refl, ap, sym, ◌∙◌, nat_eq, add-one, drop-cons}
use Rattle.std.proofs.lemmas.List.{append_assoc, append-nil}
use Rattle.std.proofs.lemmas.Bool.{cases_Bool, cond-true, cond-false, eq-eqb, ne_eqb}
use Rattle.box_layers.specs.declared.cell_value.CellValue.{CellValue}
use Rattle.bound_cert.specs.Content.{Layer}
use Rattle.open_cells.specs.Counts.{nodes_at}
use Rattle.open_cells.specs.declared.node.Node.{Node}
use Rattle.open_cells.proofs.Built.{nodes-get}
use Rattle.branch_bound.specs.Keyed.{key_at, cell_of_node, joined, cut, keyed}

layer : ℕ → ℕ → ℕ → List CellValue → Layer
layer b p lane cells = record { key = key_at b p lane; cells = cells }

-- of one lane
pub join-same : (b p lane : ℕ) (cells more : List CellValue) (rest : List Layer) → joined b p lane cells (joined b p lane more rest) ≡ joined b p lane (cells ++ more) rest
join-same b p lane cells more [] = cond-true (nat_eq lane lane) _ _ (eq-eqb lane lane refl)
join-same b p lane cells more (x ∷ xs) =
    let mk : List CellValue → Layer = λ z. record { key = key_at b p lane; cells = z } in
    elim (cases_Bool (nat_eq x.key.lane lane)) as (λ _. joined b p lane cells (joined b p lane more (x ∷ xs)) ≡ joined b p lane (cells ++ more) (x ∷ xs)) [
      | inl y ↦ ap (joined b p lane cells) (cond-true (nat_eq x.key.lane lane) (mk (more ++ x.cells) ∷ xs) (mk more ∷ x ∷ xs) y)
          ∙ (cond-true (nat_eq lane lane) _ _ (eq-eqb lane lane refl) ∙ (ap (λ z. mk z ∷ xs) (sym (append_assoc cells more x.cells)) ∙ sym (cond-true (nat_eq x.key.lane lane) (mk ((cells ++ more) ++ x.cells) ∷ xs) (mk (cells ++ more) ∷ x ∷ xs) y)))
      | inr n ↦ ap (joined b p lane cells) (cond-false (nat_eq x.key.lane lane) (mk (more ++ x.cells) ∷ xs) (mk more ∷ x ∷ xs) n)
          ∙ (cond-true (nat_eq lane lane) _ _ (eq-eqb lane lane refl) ∙ sym (cond-false (nat_eq x.key.lane lane) (mk ((cells ++ more) ++ x.cells) ∷ xs) (mk (cells ++ more) ∷ x ∷ xs) n))
    ]

-- what is joined begins with the lane's layer
pub record Begins (b p lane : ℕ) (cells : List CellValue) (layers : List Layer) : Type 0 where
  pub more : List CellValue
  pub rest : List Layer
  pub is : layers ≡ record { key = key_at b p lane; cells = cells ++ more } ∷ rest

pub begins : (b p lane : ℕ) (cells : List CellValue) (rest : List Layer) → Begins b p lane cells (joined b p lane cells rest)
begins b p lane cells [] = record { more = []; rest = []; is = ap (λ (z : List CellValue). record { key = key_at b p lane; cells = z } ∷ []) (sym (append-nil cells)) }
begins b p lane cells (x ∷ xs) =
    let mk : List CellValue → Layer = λ z. record { key = key_at b p lane; cells = z } in
    elim (cases_Bool (nat_eq x.key.lane lane)) as (λ _. Begins b p lane cells (joined b p lane cells (x ∷ xs))) [
      | inl y ↦ record { more = x.cells; rest = xs; is = cond-true (nat_eq x.key.lane lane) (mk (cells ++ x.cells) ∷ xs) (mk cells ∷ x ∷ xs) y }
      | inr n ↦ record { more = []; rest = x ∷ xs; is = cond-false (nat_eq x.key.lane lane) (mk (cells ++ x.cells) ∷ xs) (mk cells ∷ x ∷ xs) n ∙ ap (λ z. mk z ∷ x ∷ xs) (sym (append-nil cells)) }
    ]

-- of two lanes
pub join-other : (b p lane other : ℕ) (cells more : List CellValue) (rest : List Layer) → other ≢ lane
    → joined b p lane cells (joined b p other more rest) ≡ record { key = key_at b p lane; cells = cells } ∷ joined b p other more rest
join-other b p lane other cells more rest ne =
    let w = begins b p other more rest in
    let mk : List CellValue → Layer = λ z. record { key = key_at b p lane; cells = z } in
    let head : Layer = record { key = key_at b p other; cells = more ++ w.more } in
    ap (joined b p lane cells) w.is ∙ (cond-false (nat_eq other lane) (mk (cells ++ head.cells) ∷ w.rest) (mk cells ∷ head ∷ w.rest) (ne_eqb other lane ne) ∙ ap (λ (z : List Layer). mk cells ∷ z) (sym w.is))

-- what is put so far, the layer in hand, and what is left
pub record Putting (b p : ℕ) (nodes : List Node) (old out : List Layer) (lane : ℕ) (cells : List CellValue) (k : ℕ) : Type 0 where
  pub whole : old ++ cut b p nodes ≡ out ++ joined b p lane cells (cut b p (drop k nodes))

pub putting-starts : (b p : ℕ) (nodes : List Node) (old : List Layer) (lane : ℕ) (cells : List CellValue) (d : Node) → 0 < length nodes → lane ≡ (get_or nodes 0 d).lane → cells ≡ [] → Putting b p nodes old old lane cells 0
putting-starts b p [] old lane cells d h le ce = absurd (omega arith)
putting-starts b p (x ∷ xs) old lane cells d h le ce = record {
  whole = ap (λ (z : List Layer). old ++ z) (sym (join-same b p x.lane [] (cell_of_node x ∷ []) (cut b p xs)) ∙ (ap (λ z. joined b p z [] (cut b p (x ∷ xs))) (sym le) ∙ ap (λ z. joined b p lane z (cut b p (x ∷ xs))) (sym ce)));
}

next-cut : (b p : ℕ) (nodes : List Node) (k : ℕ) (d : Node) → k < length nodes → cut b p (drop k nodes) ≡ joined b p (get_or nodes k d).lane (cell_of_node (get_or nodes k d) ∷ []) (cut b p (drop (k + 1) nodes))
next-cut b p nodes k d h = ap (cut b p) (drop-cons nodes k d h) ∙ ap (λ z. joined b p (get_or nodes k d).lane (cell_of_node (get_or nodes k d) ∷ []) (cut b p (drop z nodes))) (sym (add-one k))

pub putting-same : (b p : ℕ) (nodes : List Node) (old out : List Layer) (lane : ℕ) (cells cells' : List CellValue) (k : ℕ) (d : Node) → Putting b p nodes old out lane cells k → k < length nodes → (get_or nodes k d).lane ≡ lane
    → cells' ≡ cells ++ cell_of_node (get_or nodes k d) ∷ [] → Putting b p nodes old out lane cells' (k + 1)
putting-same b p nodes old out lane cells cells' k d t h e ce = record {
  whole = t.whole ∙ ap (λ (z : List Layer). out ++ z) (ap (joined b p lane cells) (next-cut b p nodes k d h)
      ∙ (ap (λ z. joined b p lane cells (joined b p z (cell_of_node (get_or nodes k d) ∷ []) (cut b p (drop (k + 1) nodes)))) e
      ∙ (join-same b p lane cells (cell_of_node (get_or nodes k d) ∷ []) (cut b p (drop (k + 1) nodes)) ∙ ap (λ z. joined b p lane z (cut b p (drop (k + 1) nodes))) (sym ce))));
}

pub putting-other : (b p : ℕ) (nodes : List Node) (old out out' : List Layer) (lane lane' : ℕ) (cells cells' : List CellValue) (k : ℕ) (d : Node) → Putting b p nodes old out lane cells k → k < length nodes → (get_or nodes k d).lane ≢ lane
    → out' ≡ out ++ record { key = key_at b p lane; cells = cells } ∷ [] → lane' ≡ (get_or nodes k d).lane → cells' ≡ cell_of_node (get_or nodes k d) ∷ [] → Putting b p nodes old out' lane' cells' (k + 1)
putting-other b p nodes old out out' lane lane' cells cells' k d t h ne oe le ce =
    let x = get_or nodes k d in
    let one : Layer = record { key = key_at b p lane; cells = cells } in
    let rest = cut b p (drop (k + 1) nodes) in
    record {
      whole = t.whole ∙ (ap (λ (z : List Layer). out ++ z) (ap (joined b p lane cells) (next-cut b p nodes k d h) ∙ join-other b p lane x.lane cells (cell_of_node x ∷ []) rest ne)
          ∙ (sym (append_assoc out (one ∷ []) (joined b p x.lane (cell_of_node x ∷ []) rest)) ∙ (ap (λ (z : List Layer). z ++ joined b p x.lane (cell_of_node x ∷ []) rest) (sym oe)
          ∙ (ap (λ z. out' ++ joined b p z (cell_of_node x ∷ []) rest) (sym le) ∙ ap (λ z. out' ++ joined b p lane' z rest) (sym ce)))));
    }

drop-past : (nodes : List Node) (k : ℕ) → length nodes ≤ k → drop k nodes ≡ []
drop-past [] zero h = refl
drop-past [] (suc k) h = refl
drop-past (x ∷ xs) zero h = absurd (omega arith)
drop-past (x ∷ xs) (suc k) h = drop-past xs k (omega arith)

pub putting-ends : (b p : ℕ) (nodes : List Node) (old out out' : List Layer) (lane : ℕ) (cells : List CellValue) (k : ℕ) → Putting b p nodes old out lane cells k → length nodes ≤ k
    → out' ≡ out ++ record { key = key_at b p lane; cells = cells } ∷ [] → out' ≡ old ++ cut b p nodes
putting-ends b p nodes old out out' lane cells k t h oe = oe ∙ sym (t.whole ∙ ap (λ (z : List Node). out ++ joined b p lane cells (cut b p z)) (drop-past nodes k h))

pub none-put : (b p : ℕ) (nodes : List Node) (old : List Layer) → length nodes ≤ 0 → old ≡ old ++ cut b p nodes
none-put b p [] old h = sym (append-nil old)
none-put b p (x ∷ xs) old h = absurd (omega arith)

-- one sample after another
pub keyed-more : (n : ℕ) (layers : List (List Node)) (out out' : List Layer) (i : ℕ) (nodes : List Node) → i < length layers → keyed n 0 layers ≡ out ++ keyed n i (drop i layers) → nodes ≡ nodes_at layers i
    → out' ≡ out ++ cut (i / n) (i % n) nodes → keyed n 0 layers ≡ out' ++ keyed n (i + 1) (drop (i + 1) layers)
keyed-more n layers out out' i nodes h t ne oe =
    let c = cut (i / n) (i % n) (nodes_at layers i) in
    let rest = keyed n (i + 1) (drop (i + 1) layers) in
    let e : drop i layers ≡ nodes_at layers i ∷ drop (i + 1) layers = drop-cons layers i [] h ∙ (ap (λ z. get_or layers i [] ∷ drop z layers) (sym (add-one i)) ∙ ap (λ (z : List Node). z ∷ drop (i + 1) layers) (nodes-get layers i [] h)) in
    let s : keyed n (suc i) (drop (i + 1) layers) ≡ rest = ap (λ z. keyed n z (drop (i + 1) layers)) (sym (add-one i)) in
    let o : out ++ c ≡ out' = sym (oe ∙ ap (λ z. out ++ cut (i / n) (i % n) z) ne) in
    t ∙ (ap (λ (z : List (List Node)). out ++ keyed n i z) e ∙ (ap (λ (z : List Layer). out ++ (c ++ z)) s ∙ (sym (append_assoc out c rest) ∙ ap (λ (z : List Layer). z ++ rest) o)))

drop-all : (layers : List (List Node)) (k : ℕ) → length layers ≤ k → drop k layers ≡ []
drop-all [] zero h = refl
drop-all [] (suc k) h = refl
drop-all (x ∷ xs) zero h = absurd (omega arith)
drop-all (x ∷ xs) (suc k) h = drop-all xs k (omega arith)

pub keyed-ends : (n : ℕ) (layers : List (List Node)) (out : List Layer) (i : ℕ) → length layers ≤ i → keyed n 0 layers ≡ out ++ keyed n i (drop i layers) → out ≡ keyed n 0 layers
keyed-ends n layers out i h t = sym (t ∙ (ap (λ (z : List (List Node)). out ++ keyed n i z) (drop-all layers i h) ∙ append-nil out))
