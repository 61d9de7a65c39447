-- Layers from the end to the start.
use Rattle.std.proofs.Common.{◌≡◌, ℕ, zero, suc, ◌+◌, ◌-◌, ◌*◌, ◌<◌, ◌≤◌, ◌⊎◌, inl, inr, ℤ, List, [], ◌∷◌, ◌++◌, length, get_or, arith, refl, ap, sym, ◌∙◌, subst, IsTrue, map, add-one, length-append}
use Rattle.std.specs.Prelude.{reverse}
use Rattle.std.proofs.lemmas.List.{get_or-reverse, length-reverse, get_or-map, length-map}
use Rattle.std.proofs.lemmas.List.Elements.{Contains-get_or}
use Rattle.std.proofs.Math.Nat.{eq-or-lt_of_le}
use Rattle.open_cells.specs.declared.node.Node.{Node}
use Rattle.open_cells.specs.Nodes.{IsRising, rank}
use Rattle.open_cells.proofs.Order.{rising-nil}
use Rattle.open_cells.proofs.Merging.{blank}
use Rattle.open_cells.specs.declared.search.Search.{Search}
use Rattle.open_cells.specs.Reach.{IsSearch, AllOpen}
use Rattle.open_cells.proofs.Fronts.{node-cell}
use Rattle.open_cells.specs.Counts.{nodes_at}
use Rattle.open_cells.proofs.Built.{nodes-get, nodes-front, nodes-past, at-last}
use Rattle.branch_bound.specs.Worth.{valued, AreValued, AreBacked, prior}
use Rattle.machine_core.specs.Cells.{is_cell}
use Rattle.machine_core.specs.Rules.{Rules, grid}
use Rattle.open_cells.specs.Paths.{HasLaws}

pub cell-here : (m : Rules) (s : Search) (i k : ℕ) (front : List Node) (d : Node) → HasLaws m → IsSearch m s → AllOpen m s.targets.now s.blocks s.level s.most i front → k < length front → IsTrue (is_cell (grid m) s.level (get_or front k d).cell)
cell-here m s i k front d laws search o h = node-cell m s i (get_or front k d) laws search (o.each (get_or front k d) (Contains-get_or front k d h))

prior-kept : (layers : List (List Node)) (v : List Node) (j : ℕ) → j ≤ length layers → prior (layers ++ v ∷ []) j ≡ prior layers j
prior-kept layers v zero h = refl
prior-kept layers v (suc j) h = nodes-front layers v j (omega arith)

pub prior-last : (old new : List (List Node)) (v : List Node) (k : ℕ) → length old ≡ k → new ≡ old ++ v ∷ [] → v ≡ prior new (k + 1)
prior-last old new v k s e = sym (ap (prior new) (add-one k) ∙ (ap (λ (z : List (List Node)). nodes_at z k) e ∙ at-last old v k s))

pub prior-rising : (m : Rules) (targets : List ℤ) (blocks level most : ℕ) (fronts layers : List (List Node)) (n k j : ℕ) → AreBacked m targets blocks level most fronts layers n k → j ≤ k → IsRising (prior layers j)
prior-rising m targets blocks level most fronts layers n k zero b h = rising-nil
prior-rising m targets blocks level most fronts layers n k (suc j) b h = b.rising j (omega arith)

pub rising-map : (f : Node → Node) → ((x : Node) → rank (f x) ≡ rank x) → (xs : List Node) → IsRising xs → IsRising (map f xs)
rising-map f same xs r = record {
  rises = λ i j d h k. (
      let l : length (map f xs) ≡ length xs = length-map xs f in
      let a = ap rank (get_or-map f xs i blank d (omega arith)) ∙ same (get_or xs i blank) in
      let b = ap rank (get_or-map f xs j blank d (omega arith)) ∙ same (get_or xs j blank) in
      let o = r.rises i j blank h (omega arith) in
      omega arith);
}

pub backed-starts : (m : Rules) (targets : List ℤ) (blocks level most : ℕ) (fronts layers : List (List Node)) (n : ℕ) → layers ≡ [] → AreBacked m targets blocks level most fronts layers n 0
backed-starts m targets blocks level most fronts layers n e = record { size = ap (length {A = List Node}) e; each = λ j h. absurd (omega arith); rising = λ j h. absurd (omega arith) }

pub backed-more : (m : Rules) (targets : List ℤ) (blocks level most : ℕ) (fronts old new : List (List Node)) (v : List Node) (n k i : ℕ) (next front : List Node) → AreBacked m targets blocks level most fronts old n k
    → new ≡ old ++ v ∷ [] → i ≡ n - suc k → next ≡ prior old k → front ≡ nodes_at fronts i → IsRising front → v ≡ map (valued m targets blocks level most i next) front
    → AreBacked m targets blocks level most fronts new n (k + 1)
backed-more m targets blocks level most fronts old new v n k i next front b e ie ne fe rise ve =
    let s = b.size in
    let last = at-last old v k s in
    let here : nodes_at (old ++ v ∷ []) k ≡ map (valued m targets blocks level most (n - suc k) (prior (old ++ v ∷ []) k)) (nodes_at fronts (n - suc k)) =
    last ∙ (ve ∙ (ap (λ (z : List Node). map (valued m targets blocks level most i next) z) fe
    ∙ (ap (λ (z : List Node). map (valued m targets blocks level most i z) (nodes_at fronts i)) (ne ∙ sym (prior-kept old v k (omega arith)))
    ∙ ap (λ (z : ℕ). map (valued m targets blocks level most z (prior (old ++ v ∷ []) k)) (nodes_at fronts z)) ie))) in
    let up : IsRising v = subst (λ (z : List Node). IsRising z) (sym ve) (rising-map (valued m targets blocks level most i next) (λ x. refl) front rise) in
    subst (λ (z : List (List Node)). AreBacked m targets blocks level most fronts z n (k + 1)) (sym e) (record {
      size = (let l : length (old ++ v ∷ []) ≡ length old + 1 = length-append old (v ∷ []) in omega arith);
      each = λ j h. (elim (eq-or-lt_of_le {n = j} {m = k} (omega arith)) [
        | inl q ↦ subst (λ (z : ℕ). nodes_at (old ++ v ∷ []) z ≡ map (valued m targets blocks level most (n - suc z) (prior (old ++ v ∷ []) z)) (nodes_at fronts (n - suc z))) (sym q) here
        | inr lt ↦ nodes-front old v j (omega arith) ∙ (b.each j lt ∙ ap (λ (z : List Node). map (valued m targets blocks level most (n - suc j) z) (nodes_at fronts (n - suc j))) (sym (prior-kept old v j (omega arith))))
      ]);
      rising = λ j h. (elim (eq-or-lt_of_le {n = j} {m = k} (omega arith)) [
        | inl q ↦ subst (λ (z : List Node). IsRising z) (sym (ap (nodes_at (old ++ v ∷ [])) q ∙ last)) up
        | inr lt ↦ subst (λ (z : List Node). IsRising z) (sym (nodes-front old v j (omega arith))) (b.rising j lt)
      ]);
    })

nodes-reverse : (xs : List (List Node)) (i : ℕ) → i < length xs → nodes_at (reverse xs) i ≡ nodes_at xs (length xs - 1 - i)
nodes-reverse [] i h = absurd (omega arith)
nodes-reverse (x ∷ ys) i h =
    let l : length (reverse (x ∷ ys)) ≡ length (x ∷ ys) = length-reverse (x ∷ ys) in
    sym (nodes-get (reverse (x ∷ ys)) i x (omega arith)) ∙ (get_or-reverse (x ∷ ys) i x h ∙ nodes-get (x ∷ ys) (length (x ∷ ys) - 1 - i) x (omega arith))

zero-or : (j : ℕ) → (j ≡ 0) ⊎ ((k : ℕ) × (j ≡ suc k))
zero-or zero = inl refl
zero-or (suc k) = inr (k, refl)

pub values-all : (m : Rules) (targets : List ℤ) (blocks level most : ℕ) (fronts back layers : List (List Node)) (k : ℕ) → AreBacked m targets blocks level most fronts back (blocks * m.decoder.samples) k → k ≡ blocks * m.decoder.samples
    → layers ≡ reverse back → AreValued m targets blocks level most fronts layers
values-all m targets blocks level most fronts back layers k b ke e =
    let n = blocks * m.decoder.samples in
    let s = b.size in
    subst (λ (z : List (List Node)). AreValued m targets blocks level most fronts z) (sym e) (record {
      size = length-reverse back ∙ (s ∙ ke);
      each = λ i h. (
          let j = n - suc i in
          let ij : n - suc j ≡ i = omega arith in
          let jl : j < k = omega arith in
          let at : nodes_at (reverse back) i ≡ nodes_at back j = nodes-reverse back i (omega arith) ∙ ap (nodes_at back) (omega arith) in
          let after : prior back j ≡ nodes_at (reverse back) (suc i) = (elim (zero-or j) as (λ _. prior back j ≡ nodes_at (reverse back) (suc i)) [
            | inl z ↦ ap (prior back) z ∙ sym (nodes-past (reverse back) (suc i) (let l : length (reverse back) ≡ length back = length-reverse back in omega arith))
            | inr w ↦ ap (prior back) w.1 ∙ (ap (nodes_at back) (let q = w.1 in omega arith) ∙ sym (nodes-reverse back (suc i) (let q = w.1 in omega arith)))
          ]) in
          at ∙ (b.each j jl ∙ (ap (λ (z : List Node). map (valued m targets blocks level most (n - suc j) z) (nodes_at fronts (n - suc j))) after
          ∙ ap (λ (z : ℕ). map (valued m targets blocks level most z (nodes_at (reverse back) (suc i))) (nodes_at fronts z)) ij)));
    })
