-- A look-up by the order.
use Rattle.std.proofs.Common.{◌≡◌, ℕ, zero, suc, ◌<◌, ◌≤◌, ◌⊎◌, ◌≢◌, inl, inr, List, [], ◌∷◌, length, get_or, arith, refl, ap, sym, ◌∙◌, Some, None, true, false, eq-eqb, eqb-true}
use Rattle.std.specs.Cmp.{signed_Decides}
use Rattle.std.specs.List.Sorted.{IsNonDecreasingBy}
use Rattle.std.proofs.lemmas.Bool.{cond-true, cond-false, and_parts, and_from, cases_Bool, false_from_ne_true}
use Rattle.machine_core.specs.declared.boxes.Cell.{Cell}
use Rattle.open_cells.specs.declared.node.Node.{Node}
use Rattle.open_cells.specs.Nodes.{rank_of, rank, IsRising, is_at, listed_in}
use Rattle.open_cells.proofs.Order.{same-cell}
use Rattle.open_cells.proofs.Merging.{same-get}

pub at-true : (x : Node) (lane : ℕ) (c : Cell) → is_at x lane c ≡ true → (x.lane ≡ lane) × (x.cell ≡ c)
at-true x lane c h =
    let p = and_parts _ _ h in let q = and_parts _ _ p.1 in
    (eqb-true x.lane lane p.0, same-cell x.cell c ((signed_Decides x.cell.a c.a).0 q.0) ((signed_Decides x.cell.b c.b).0 q.1))

pub at-make : (x : Node) (lane : ℕ) (c : Cell) → x.lane ≡ lane → x.cell ≡ c → is_at x lane c ≡ true
at-make x lane c l e =
    and_from _ _ (eq-eqb x.lane lane l) (and_from _ _ ((signed_Decides x.cell.a c.a).1 (ap (λ (z : Cell). z.a) e)) ((signed_Decides x.cell.b c.b).1 (ap (λ (z : Cell). z.b) e)))

at-rank : (x : Node) (lane : ℕ) (c : Cell) → is_at x lane c ≡ true → rank x ≡ rank_of lane c
at-rank x lane c h = let f : ℕ → Cell → ℕ = rank_of in let e = at-true x lane c h in ap (λ l. f l x.cell) e.0 ∙ ap (f lane) e.1

at-false : (x : Node) (lane : ℕ) (c : Cell) → rank x ≢ rank_of lane c → is_at x lane c ≡ false
at-false x lane c ne = false_from_ne_true _ (λ h. ne (at-rank x lane c h))

pub listed-none : (xs : List Node) (lane : ℕ) (c : Cell) → ((k : ℕ) (d : Node) → k < length xs → rank (get_or xs k d) ≢ rank_of lane c) → listed_in xs lane c ≡ None
listed-none [] lane c h = refl
listed-none (x ∷ xs) lane c h = cond-false _ _ _ (at-false x lane c (h 0 x (omega arith))) ∙ listed-none xs lane c (λ k d l. h (suc k) d (omega arith))

pub listed-here : (xs : List Node) (lane : ℕ) (c : Cell) (i : ℕ) (d : Node) → i < length xs → ((k : ℕ) (e : Node) → k < i → rank (get_or xs k e) ≢ rank_of lane c)
    → (get_or xs i d).lane ≡ lane → (get_or xs i d).cell ≡ c → listed_in xs lane c ≡ Some (get_or xs i d).cost
listed-here [] lane c i d h before l e = absurd (omega arith)
listed-here (x ∷ xs) lane c zero d h before l e = cond-true _ _ _ (at-make x lane c l e)
listed-here (x ∷ xs) lane c (suc i) d h before l e =
    cond-false _ _ _ (at-false x lane c (before 0 x (omega arith))) ∙ listed-here xs lane c i d (omega arith) (λ k f lt. before (suc k) f (omega arith)) l e

-- what is listed stands there
pub record Listed (xs : List Node) (lane : ℕ) (c : Cell) (v : ℕ) : Type 0 where
  pub k : ℕ
  pub fits : k < length xs
  pub lane_is : (d : Node) → (get_or xs k d).lane ≡ lane
  pub cell_is : (d : Node) → (get_or xs k d).cell ≡ c
  pub cost_is : (d : Node) → (get_or xs k d).cost ≡ v

some-same : {x y : ℕ} → Some x ≡ Some y → x ≡ y
some-same h = cc

pub listed-at : (xs : List Node) (lane : ℕ) (c : Cell) (v : ℕ) → listed_in xs lane c ≡ Some v → Listed xs lane c v
listed-at [] lane c v h = absurd (let q : None ≡ Some v = h in cc)
listed-at (x ∷ xs) lane c v h =
    elim (cases_Bool (is_at x lane c)) [
      | inl t ↦ (let e = at-true x lane c t in
          record { k = 0; fits = omega arith; lane_is = λ d. e.0; cell_is = λ d. e.1; cost_is = λ d. some-same (sym (cond-true (is_at x lane c) (Some x.cost) (listed_in xs lane c) t) ∙ h) })
      | inr f ↦ (let r = listed-at xs lane c v (sym (cond-false (is_at x lane c) (Some x.cost) (listed_in xs lane c) f) ∙ h) in
          record { k = suc r.k; fits = (let g = r.fits in omega arith); lane_is = r.lane_is; cell_is = r.cell_is; cost_is = r.cost_is })
    ]

-- what stands there is listed
pub listed-some : (xs : List Node) (lane : ℕ) (c : Cell) (k : ℕ) (d : Node) → k < length xs → (get_or xs k d).lane ≡ lane → (get_or xs k d).cell ≡ c → (v : ℕ) × (listed_in xs lane c ≡ Some v)
listed-some [] lane c k d h l e = absurd (omega arith)
listed-some (x ∷ xs) lane c zero d h l e = (x.cost, cond-true (is_at x lane c) (Some x.cost) (listed_in xs lane c) (at-make x lane c l e))
listed-some (x ∷ xs) lane c (suc k) d h l e =
    elim (cases_Bool (is_at x lane c)) as (λ _. (v : ℕ) × (listed_in (x ∷ xs) lane c ≡ Some v)) [
      | inl t ↦ (x.cost, cond-true (is_at x lane c) (Some x.cost) (listed_in xs lane c) t)
      | inr f ↦ (let r = listed-some xs lane c k d (omega arith) l e in (r.0, cond-false (is_at x lane c) (Some x.cost) (listed_in xs lane c) f ∙ r.1))
    ]

le-cases : (i j : ℕ) → i ≤ j → (i < j) ⊎ (i ≡ j)
le-cases i j h = grind arith

pub non-decreasing : (xs : List Node) → IsRising xs → IsNonDecreasingBy rank xs
non-decreasing xs r i j d h k =
    elim (le-cases i j h) [ inl lt ↦ (let o = r.rises i j d lt k in omega arith) | inr e ↦ (let o = ap (λ z. rank (get_or xs z d)) e in omega arith) ]

order : (a b : ℕ) → (a < b) ⊎ (b ≤ a)
order a b = grind arith

-- no node of the place where it would stand
pub none-at : (xs : List Node) (i at r : ℕ) (e : Node) → IsRising xs → at ≡ r → ((k : ℕ) (d : Node) → k < i → rank (get_or xs k d) < at) → ((k : ℕ) (d : Node) → i ≤ k → k < length xs → at ≤ rank (get_or xs k d))
    → rank (get_or xs i e) ≢ at → (k : ℕ) (d : Node) → k < length xs → rank (get_or xs k d) ≢ r
none-at xs i at r e rise same below above ne k d l q =
    elim (order k i) [
      | inl lt ↦ (let b = below k d lt in omega arith)
      | inr ge ↦ (elim (le-cases i k ge) [
        | inl gt ↦ (let a = above i e (omega arith) (omega arith) in let o = rise.rises i k e gt l in let s = ap rank (same-get xs k d e l) in absurd (ne (omega arith)))
        | inr eq ↦ (let s = ap rank (same-get xs k d e l) in let t = ap (λ z. rank (get_or xs z e)) eq in absurd (ne (omega arith)))
      ])
    ]
