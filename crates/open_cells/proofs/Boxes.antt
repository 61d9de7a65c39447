-- The cells between two corners, one after another.
use Rattle.std.proofs.Common.{◌≡◌, ℕ, ◌+◌, ◌<◌, ◌≤◌, ◌⊎◌, inl, inr, ℤ, pos, List, arith, refl, ap, sym, ◌∙◌, subst}
use Rattle.std.specs.Prelude.{◌+ℤ◌, ◌-ℤ◌, ◌≤ℤ◌, unsigned_abs}
use Rattle.std.proofs.lemmas.Int.{ints}
use Rattle.std.specs.List.{Contains}
use Rattle.std.proofs.Math.Nat.{eq-or-lt_of_le}
use Rattle.open_cells.specs.declared.node.Node.{Node}
use Rattle.open_cells.specs.Nodes.{HasNode, Keeps, IsAdded}
use Rattle.open_cells.proofs.Merging.{keeps-self, keeps-trans, has-kept}
use Rattle.open_cells.proofs.Order.{same-cell}
use Rattle.open_cells.proofs.Paths.{near, near-count}
use Rattle.open_cells.specs.Reach.{IsNew, IsNewOrOld}
use Rattle.box_layers.specs.Looking.{span_count}
use Rattle.machine_core.specs.Cells.{IsBetween}
use Rattle.machine_core.specs.declared.boxes.Cell.{Cell}

abbrev pub cell : ℤ → ℤ → Cell
cell a b = record { a = a; b = b }

-- after y cells of a row
pub record Rowed (old new : List Node) (lane : ℕ) (a low high : ℤ) (cost y : ℕ) : Type 0 where
  pub kept : Keeps old new
  pub covers : (k : ℕ) → k < y → HasNode new lane (cell a (low +ℤ pos k)) cost
  pub from : IsNewOrOld (cell a low) (cell a high) lane cost old new

pub rowed-starts : (old : List Node) (lane : ℕ) (a low high : ℤ) (cost : ℕ) → Rowed old old lane a low high cost 0
rowed-starts old lane a low high cost = record { kept = keeps-self old; covers = λ k h. absurd (omega arith); from = λ x c. inl c }

in-row-low : (low high : ℤ) (y : ℕ) → low ≤ℤ (low +ℤ pos y)
in-row-low low high y = grind (arith, ints)

in-row-high : (low high : ℤ) (y : ℕ) → low ≤ℤ high → y < span_count low high → (low +ℤ pos y) ≤ℤ high
in-row-high low high y o h = grind (arith, ints)

le-self : (a : ℤ) → a ≤ℤ a
le-self a = omega (arith, ints)

le-trans : (a b c : ℤ) → a ≤ℤ b → b ≤ℤ c → a ≤ℤ c
le-trans a b c p q = omega (arith, ints)

pub row-from : (old mid new : List Node) (lane : ℕ) (a low high : ℤ) (cost y : ℕ) (b : ℤ) → low ≤ℤ high → y < span_count low high → b ≡ low +ℤ pos y
    → IsNewOrOld (cell a low) (cell a high) lane cost old mid → ((x : Node) → Contains new x → Contains mid x ⊎ (record { lane = lane; cell = cell a b; cost = cost } ≡ x)) → IsNewOrOld (cell a low) (cell a high) lane cost old new
row-from old mid new lane a low high cost y b o h e f g x c =
    elim (g x c) as (λ _. Contains old x ⊎ IsNew (cell a low) (cell a high) lane cost x) [
      | inl t ↦ f x t
      | inr q ↦ inr (subst (λ (z : Node). IsNew (cell a low) (cell a high) lane cost z) q (record {
        lane_is = refl;
        cost_is = refl;
        between =
            record { a_low = le-self a; a_high = le-self a; b_low = subst (λ (z : ℤ). low ≤ℤ z) (sym e) (in-row-low low high y); b_high = subst (λ (z : ℤ). z ≤ℤ high) (sym e) (in-row-high low high y o h) };
      }))
    ]

pub rowed-more : (old mid new : List Node) (lane : ℕ) (a low high : ℤ) (cost y : ℕ) (b : ℤ) → low ≤ℤ high → y < span_count low high → b ≡ low +ℤ pos y
    → Rowed old mid lane a low high cost y → IsAdded mid (record { lane = lane; cell = cell a b; cost = cost }) new
    → ((x : Node) → Contains new x → Contains mid x ⊎ (record { lane = lane; cell = cell a b; cost = cost } ≡ x)) → Rowed old new lane a low high cost (y + 1)
rowed-more old mid new lane a low high cost y b o h e r added g = record {
  kept = keeps-trans old mid new r.kept added.kept;
  covers = λ k l. (elim (eq-or-lt_of_le {n = k} {m = y} (omega arith)) [
    | inl eq ↦ subst (λ (z : ℤ). HasNode new lane (cell a z) cost) (e ∙ ap (λ z. low +ℤ pos z) (sym eq)) added.put
    | inr lt ↦ has-kept mid new lane (cell a (low +ℤ pos k)) cost added.kept (r.covers k lt)
  ]);
  from = row-from old mid new lane a low high cost y b o h e r.from g;
}

-- after x rows of a box
pub record Boxed (old new : List Node) (lane : ℕ) (low high : Cell) (cost x : ℕ) : Type 0 where
  pub kept : Keeps old new
  pub covers : (k n : ℕ) → k < x → n < span_count low.b high.b → HasNode new lane (cell (low.a +ℤ pos k) (low.b +ℤ pos n)) cost
  pub from : IsNewOrOld low high lane cost old new

pub boxed-starts : (old : List Node) (lane : ℕ) (low high : Cell) (cost : ℕ) → Boxed old old lane low high cost 0
boxed-starts old lane low high cost = record { kept = keeps-self old; covers = λ k n h l. absurd (omega arith); from = λ x c. inl c }

pub box-from : (old mid new : List Node) (lane : ℕ) (low high : Cell) (cost x : ℕ) (a : ℤ) → low.a ≤ℤ high.a → x < span_count low.a high.a → a ≡ low.a +ℤ pos x
    → IsNewOrOld low high lane cost old mid → IsNewOrOld (cell a low.b) (cell a high.b) lane cost mid new → IsNewOrOld low high lane cost old new
box-from old mid new lane low high cost x a o h e f g y c =
    elim (g y c) as (λ _. Contains old y ⊎ IsNew low high lane cost y) [
      | inl t ↦ f y t
      | inr n ↦ inr (let b = n.between in let al = b.a_low in let ah = b.a_high in
          let l : low.a ≤ℤ a = subst (λ (z : ℤ). low.a ≤ℤ z) (sym e) (in-row-low low.a high.a x) in
          let k : a ≤ℤ high.a = subst (λ (z : ℤ). z ≤ℤ high.a) (sym e) (in-row-high low.a high.a x o h) in
          record { lane_is = n.lane_is; cost_is = n.cost_is; between = record { a_low = le-trans low.a a y.cell.a l al; a_high = le-trans y.cell.a a high.a ah k; b_low = b.b_low; b_high = b.b_high } })
    ]

pub boxed-more : (old mid new : List Node) (lane : ℕ) (low high : Cell) (cost x : ℕ) (a : ℤ) → low.a ≤ℤ high.a → x < span_count low.a high.a → a ≡ low.a +ℤ pos x
    → Boxed old mid lane low high cost x → Keeps mid new → ((y : ℕ) → y < span_count low.b high.b → HasNode new lane (cell a (low.b +ℤ pos y)) cost)
    → IsNewOrOld (cell a low.b) (cell a high.b) lane cost mid new → Boxed old new lane low high cost (x + 1)
boxed-more old mid new lane low high cost x a o h e r keeps row g = record {
  kept = keeps-trans old mid new r.kept keeps;
  covers = λ k n l p. (elim (eq-or-lt_of_le {n = k} {m = x} (omega arith)) [
    | inl eq ↦ subst (λ (z : ℤ). HasNode new lane (cell z (low.b +ℤ pos n)) cost) (e ∙ ap (λ z. low.a +ℤ pos z) (sym eq)) (row n p)
    | inr lt ↦ has-kept mid new lane (cell (low.a +ℤ pos k) (low.b +ℤ pos n)) cost keeps (r.covers k n lt p)
  ]);
  from = box-from old mid new lane low high cost x a o h e r.from g;
}

-- all rows are all cells between the corners
pub boxed-all : (old new : List Node) (lane : ℕ) (low high : Cell) (cost x : ℕ) → span_count low.a high.a ≤ x → Boxed old new lane low high cost x → (c : Cell) → IsBetween low high c → HasNode new lane c cost
boxed-all old new lane low high cost x h r c b =
    let k = unsigned_abs (c.a -ℤ low.a) in let n = unsigned_abs (c.b -ℤ low.b) in
    let kl : k < span_count low.a high.a = near-count low.a c.a high.a b.a_low b.a_high in
    let nl : n < span_count low.b high.b = near-count low.b c.b high.b b.b_low b.b_high in
    subst (λ (z : Cell). HasNode new lane z cost) (same-cell _ c (near low.a c.a b.a_low) (near low.b c.b b.b_low)) (r.covers k n (omega arith) nl)
