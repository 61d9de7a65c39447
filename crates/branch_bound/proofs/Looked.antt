-- The layers of a search list what the search lists.
use Rattle.std.proofs.Common.{◌≡◌, ◌≢◌, ℕ, zero, suc, ◌+◌, ◌*◌, ◌^◌, ◌/◌, ◌%◌, ◌<◌, inl, inr, List, [], ◌∷◌, ◌++◌, length, arith, refl, ap, sym, ◌∙◌, subst, true, false, cond, nat_eq, Option, Some, None}
use Rattle.std.proofs.lemmas.Nat.{div-add-mod'}
use Rattle.std.proofs.lemmas.Bool.{cases_Bool, cond-true, cond-false, eqb-true, eq-eqb, false_from_ne_true}
use Rattle.std.proofs.lemmas.Bool.Decides.{nat_tests}
use Rattle.machine_core.specs.declared.boxes.Cell.{Cell}
use Rattle.box_layers.specs.declared.cell_value.CellValue.{CellValue}
use Rattle.box_layers.specs.declared.key.Key.{Key}
use Rattle.box_layers.specs.Cells.{value_of, same_cell}
use Rattle.box_layers.specs.Keys.{key_before, key_same}
use Rattle.box_layers.proofs.CellOrder.{same-true, same-refl}
use Rattle.bound_cert.specs.declared.shape.Limits.{Limits}
use Rattle.bound_cert.specs.Content.{Layer, IsBelowAll}
use Rattle.cert_check.specs.Layers.{cells_for}
use Rattle.open_cells.specs.declared.node.Node.{Node}
use Rattle.open_cells.specs.Counts.{nodes_at}
use Rattle.open_cells.specs.Nodes.{listed_in, is_at}
use Rattle.open_cells.proofs.Look.{at-true, at-make}
use Rattle.branch_bound.specs.Keyed.{key_at, cell_of_node, joined, cut, keyed}
use Rattle.branch_bound.proofs.Filing.{AllHere, IsGood, AreFileable, rest-fileable, cut-good, rank-order, not-same, is-same, lane-before, below-trans, shift, none-more, from-below, keyed-filed}
use Rattle.branch_bound.proofs.Joining.{begins}

below-other : (j k : Key) → key_before j k ≡ true → key_same k j ≡ false
unfolding key_before
below-other j k h = grind (arith, nat_tests)

-- no layer below a key has the key
below-none : (k : Key) (xs : List Layer) → IsBelowAll k xs → cells_for xs k ≡ []
below-none k [] h = refl
below-none k (x ∷ xs) h = cond-false (key_same x.key k) x.cells (cells_for xs k) (below-other k x.key h.0) ∙ below-none k xs h.1

same-key : (j k : Key) → j.block ≡ k.block → j.place ≡ k.place → j.lane ≡ k.lane → key_same j k ≡ true
same-key j k a b c = grind (arith, nat_tests)

other-key : (j k : Key) → j.lane ≢ k.lane → key_same j k ≡ false
other-key j k h = grind (arith, nat_tests)

same-lane : (j k : Key) → key_same j k ≡ true → (j.block ≡ k.block) × (j.place ≡ k.place) × (j.lane ≡ k.lane)
same-lane j k h = (grind (arith, nat_tests), grind (arith, nat_tests), grind (arith, nat_tests))

-- what is found in a layer whose first cell is a node's, and in those behind it
look-one : (b p : ℕ) (x : Node) (more : List CellValue) (tl : List Layer) (l : ℕ) (c : Cell) (o : Option ℕ) → (x.lane ≡ l → value_of more c ≡ o) → (x.lane ≢ l → value_of (cells_for tl (key_at b p l)) c ≡ o)
    → value_of (cells_for (record { key = key_at b p x.lane; cells = cell_of_node x ∷ more } ∷ tl) (key_at b p l)) c ≡ cond (is_at x l c) (Some x.cost) o
look-one b p x more tl l c o f g =
    let cs = cell_of_node x ∷ more in
    elim (cases_Bool (nat_eq x.lane l)) as (λ _. value_of (cells_for (record { key = key_at b p x.lane; cells = cs } ∷ tl) (key_at b p l)) c ≡ cond (is_at x l c) (Some x.cost) o) [
      | inl y ↦ (
          let e = eqb-true x.lane l y in
          let here : cells_for (record { key = key_at b p x.lane; cells = cs } ∷ tl) (key_at b p l) ≡ cs = cond-true (key_same (key_at b p x.lane) (key_at b p l)) cs (cells_for tl (key_at b p l)) (same-key (key_at b p x.lane) (key_at b p l) refl refl e) in
          ap (λ (z : List CellValue). value_of z c) here
          ∙ (elim (cases_Bool (same_cell x.cell c)) as (λ _. value_of cs c ≡ cond (is_at x l c) (Some x.cost) o) [
            | inl s ↦ cond-true (same_cell x.cell c) (Some x.cost) (value_of more c) s ∙ sym (cond-true (is_at x l c) (Some x.cost) o (at-make x l c e (same-true x.cell c s)))
            | inr d ↦ cond-false (same_cell x.cell c) (Some x.cost) (value_of more c) d
                ∙ (f e ∙ sym (cond-false (is_at x l c) (Some x.cost) o (false_from_ne_true _ (λ t. (let q = at-true x l c t in let r : same_cell x.cell c ≡ true = subst (λ (z : Cell). same_cell x.cell z ≡ true) q.1 (same-refl x.cell) in absurd (let z = r in let w = d in cc))))))
          ]))
      | inr n ↦ (
          let ne : x.lane ≢ l = λ e. (let t = eq-eqb x.lane l e in let w = n in cc) in
          ap (λ (z : List CellValue). value_of z c) (cond-false (key_same (key_at b p x.lane) (key_at b p l)) cs (cells_for tl (key_at b p l)) (other-key (key_at b p x.lane) (key_at b p l) ne))
          ∙ (g ne ∙ sym (cond-false (is_at x l c) (Some x.cost) o (false_from_ne_true _ (λ t. (ne (at-true x l c t).0))))))
    ]

pub cut-look : (limits : Limits) (b p : ℕ) (nodes : List Node) → AreFileable limits b p nodes → (l : ℕ) (c : Cell) → value_of (cells_for (cut b p nodes) (key_at b p l)) c ≡ listed_in nodes l c
cut-look limits b p [] f l c = refl
cut-look limits b p (x ∷ []) f l c = look-one b p x [] [] l c None (λ e. refl) (λ e. refl)
cut-look limits b p (x ∷ y ∷ ys) f l c =
    let f' = rest-fileable limits b p x (y ∷ ys) f in
    let ih = cut-look limits b p (y ∷ ys) f' l c in
    let good = cut-good limits b p (y ∷ ys) f' in
    let w = begins b p y.lane (cell_of_node y ∷ []) (cut b p ys) in
    let head : Layer = record { key = key_at b p y.lane; cells = cell_of_node y ∷ w.more } in
    let g = subst (λ (z : List Layer). IsGood limits b p (length (y ∷ ys)) z) w.is good in
    let ih' : value_of (cells_for (head ∷ w.rest) (key_at b p l)) c ≡ listed_in (y ∷ ys) l c = subst (λ (z : List Layer). value_of (cells_for z (key_at b p l)) c ≡ listed_in (y ∷ ys) l c) w.is ih in
    let fx = f.each x (0, omega arith, refl) in
    let fy = f.each y (1, omega arith, refl) in
    let o = listed_in (y ∷ ys) l c in
    let mk : List CellValue → Layer = λ z. record { key = key_at b p x.lane; cells = z } in
    subst (λ (z : List Layer). value_of (cells_for (joined b p x.lane (cell_of_node x ∷ []) z) (key_at b p l)) c ≡ cond (is_at x l c) (Some x.cost) o) (sym w.is)
    (elim (rank-order x y fx.fits fy.fits (f.rising.rises 0 1 x (omega arith) (omega arith))) as (λ _. value_of (cells_for (joined b p x.lane (cell_of_node x ∷ []) (head ∷ w.rest)) (key_at b p l)) c ≡ cond (is_at x l c) (Some x.cost) o) [
      | inl lt ↦ ap (λ (z : List Layer). value_of (cells_for z (key_at b p l)) c) (cond-false (nat_eq y.lane x.lane) (mk (cell_of_node x ∷ head.cells) ∷ w.rest) (mk (cell_of_node x ∷ []) ∷ head ∷ w.rest) (not-same y.lane x.lane lt))
          ∙ look-one b p x [] (head ∷ w.rest) l c o
          (λ e. (let k = lane-before b p x.lane y.lane lt in
          let none : cells_for (head ∷ w.rest) (key_at b p x.lane) ≡ [] = below-none (key_at b p x.lane) (head ∷ w.rest) (k, below-trans (key_at b p x.lane) (key_at b p y.lane) w.rest k g.sorted.2) in
          sym (ap (λ (z : List CellValue). value_of z c) (ap (λ z. cells_for (head ∷ w.rest) (key_at b p z)) (sym e) ∙ none)) ∙ ih'))
          (λ e. ih')
      | inr q ↦ ap (λ (z : List Layer). value_of (cells_for z (key_at b p l)) c) (cond-true (nat_eq y.lane x.lane) (mk (cell_of_node x ∷ head.cells) ∷ w.rest) (mk (cell_of_node x ∷ []) ∷ head ∷ w.rest) (is-same y.lane x.lane (sym q.0)))
          ∙ look-one b p x head.cells w.rest l c o
          (λ e. sym (ap (λ (z : List CellValue). value_of z c) (cond-true (key_same head.key (key_at b p l)) head.cells (cells_for w.rest (key_at b p l)) (same-key head.key (key_at b p l) refl refl (sym q.0 ∙ e)))) ∙ ih')
          (λ e. sym (ap (λ (z : List CellValue). value_of z c) (cond-false (key_same head.key (key_at b p l)) head.cells (cells_for w.rest (key_at b p l)) (other-key head.key (key_at b p l) (λ s. e (q.0 ∙ s))))) ∙ ih')
    ])

none-behind : (k : Key) (xs ys : List Layer) → cells_for ys k ≡ [] → cells_for (xs ++ ys) k ≡ cells_for xs k
none-behind k [] ys h = h
none-behind k (x ∷ xs) ys h = ap (λ (z : List CellValue). cond (key_same x.key k) x.cells z) (none-behind k xs ys h)

elsewhere : (j k : Key) (b p : ℕ) → j.block ≡ b → j.place ≡ p → ((k.block ≡ b) × (k.place ≡ p) → ⊥) → key_same j k ≡ false
elsewhere j k b p e f never = false_from_ne_true _ (λ t. (let q = same-lane j k t in never (sym q.0 ∙ e, sym q.1 ∙ f)))

skipped : (b p count : ℕ) (k : Key) (xs ys : List Layer) → AllHere b p count xs → ((k.block ≡ b) × (k.place ≡ p) → ⊥) → cells_for (xs ++ ys) k ≡ cells_for ys k
skipped b p count k [] ys h never = refl
skipped b p count k (x ∷ xs) ys h never = cond-false (key_same x.key k) x.cells (cells_for (xs ++ ys) k) (elsewhere x.key k b p h.0 h.1 never) ∙ skipped b p count k xs ys h.3 never

same-sample : (n i k : ℕ) → i / n ≡ k / n → i % n ≡ k % n → i ≡ k
same-sample n i k d r = let e : i / n * n ≡ k / n * n = ap (λ z. z * n) d in omega (arith, div-add-mod' i n, div-add-mod' k n)

pub keyed-look : (limits : Limits) (n i : ℕ) (xs : List (List Node)) → 0 < n → ((j : ℕ) → j < length xs → AreFileable limits ((i + j) / n) ((i + j) % n) (nodes_at xs j)) → ((j : ℕ) → length (nodes_at xs j) < 2 ^ 32)
    → (j l : ℕ) (c : Cell) → value_of (cells_for (keyed n i xs) (key_at ((i + j) / n) ((i + j) % n) l)) c ≡ listed_in (nodes_at xs j) l c
keyed-look limits n i [] some f few j l c = refl
keyed-look limits n i (x ∷ xs) some f few zero l c =
    let f0 : AreFileable limits (i / n) (i % n) x = subst (λ (z : ℕ). AreFileable limits (z / n) (z % n) x) (none-more i) (f 0 (omega arith)) in
    let rest = keyed-filed limits n (suc i) xs some (λ j h. subst (λ (z : ℕ). AreFileable limits (z / n) (z % n) (nodes_at xs j)) (shift i j) (f (suc j) (omega arith))) (λ j. few (suc j)) in
    let k = key_at (i / n) (i % n) l in
    let none = below-none k (keyed n (suc i) xs) (from-below n i k (keyed n (suc i) xs) (div-add-mod' i n) rest.from) in
    ap (λ (z : ℕ). value_of (cells_for (keyed n i (x ∷ xs)) (key_at (z / n) (z % n) l)) c) (none-more i)
    ∙ (ap (λ (z : List CellValue). value_of z c) (none-behind k (cut (i / n) (i % n) x) (keyed n (suc i) xs) none) ∙ cut-look limits (i / n) (i % n) x f0 l c)
keyed-look limits n i (x ∷ xs) some f few (suc j) l c =
    let f0 : AreFileable limits (i / n) (i % n) x = subst (λ (z : ℕ). AreFileable limits (z / n) (z % n) x) (none-more i) (f 0 (omega arith)) in
    let g = cut-good limits (i / n) (i % n) x f0 in
    let k = key_at ((i + suc j) / n) ((i + suc j) % n) l in
    let never : (k.block ≡ i / n) × (k.place ≡ i % n) → ⊥ = λ q. (let s = same-sample n (i + suc j) i q.0 q.1 in omega arith) in
    ap (λ (z : List CellValue). value_of z c) (skipped (i / n) (i % n) (length x) k (cut (i / n) (i % n) x) (keyed n (suc i) xs) g.here never)
    ∙ (ap (λ (z : ℕ). value_of (cells_for (keyed n (suc i) xs) (key_at (z / n) (z % n) l)) c) (shift i j)
    ∙ keyed-look limits n (suc i) xs some (λ a h. subst (λ (z : ℕ). AreFileable limits (z / n) (z % n) (nodes_at xs a)) (shift i a) (f (suc a) (omega arith))) (λ a. few (suc a)) j l c)
