-- The search's certificate shows the lesser of U and the least whole relaxed path.
use Rattle.std.proofs.Common.{◌≡◌, ℕ, zero, suc, ◌+◌, ◌-◌, ◌*◌, ◌/◌, ◌%◌, ◌<◌, ◌≤◌, List, [], ◌∷◌, get_or, arith, refl, ◌∙◌, min, ◌⊎◌, inl, inr, Bool, true, false, IsTrue, nat_eq, cond, ℤ, pos, Option, Some, None}
use Rattle.std.proofs.lemmas.Int.{ints}
use Rattle.std.specs.List.{Contains}
use Rattle.std.proofs.Math.Nat.{mod-lt, mod-eq_of_lt, div-eq_of_lt, sub-zero, mul-pos}
use Rattle.adpcm_nums.specs.LeastValue.{least}
use Rattle.box_layers.specs.Certificates.{Certificate, by_head, by_symbol, found, lane_at, least_piece, look, look_ahead, value, way}
use Rattle.box_layers.specs.Looking.{IsCornered, cell_near, least_listed, or_else, span_count}
use Rattle.branch_bound.specs.Searched.{IsSearched}
use Rattle.machine_core.specs.Blocks.{first_only}
use Rattle.machine_core.specs.Boxes.{high_corner, low_corner}
use Rattle.machine_core.specs.Cells.{IsBetween, cell_box, cell_of, is_level}
use Rattle.machine_core.specs.Decoder.{start}
use Rattle.machine_core.specs.Floors.{floors_from, may_take, rest, top}
use Rattle.machine_core.specs.Rules.{Rules, grid}
use Rattle.machine_core.specs.declared.boxes.Cell.{Cell}
use Rattle.machine_core.specs.declared.pieces.Piece.{Piece}
use Rattle.open_cells.specs.Paths.{FitTargets, HasLaws, IsStep, IsWhole, Meets, Opens}
use Rattle.std.proofs.lemmas.Bool.{cond-true, cond-false}
use Rattle.std.proofs.lemmas.Bool.Decides.{nat_tests}
use Rattle.std.proofs.Common.{◌≢◌}
use Rattle.adpcm_nums.proofs.LeastValueLaws.{least-reached}
use Rattle.open_cells.proofs.Paths.{box-cornered, rest-alike, opens-leads, step-box, opens-below, opens-cell}

pub bool-cases : (b : Bool) → (b ≡ true) ⊎ (b ≡ false)
bool-cases true = inl refl
bool-cases false = inr refl

pub lt-or-ge : (a b : ℕ) → (a < b) ⊎ (b ≤ a)
lt-or-ge a b = grind arith

pub option-cases : (o : Option ℕ) → (o ≡ None) ⊎ ((v : ℕ) × (o ≡ Some v))
option-cases None = inl refl
option-cases (Some v) = inr (v, refl)

pub or-else-some : (o : Option ℕ) (d v : ℕ) → o ≡ Some v → or_else o d ≡ v
or-else-some o d v e = rw e refl

pub or-else-none : (o : Option ℕ) (d : ℕ) → o ≡ None → or_else o d ≡ d
or-else-none o d e = rw e refl

min-cases : (a b : ℕ) → (min a b ≡ a) ⊎ (min a b ≡ b)
min-cases a b = grind arith

pub least-piece-reached : (qs : List Piece) (f : Piece → ℕ) (above : ℕ) → (least_piece qs f above ≡ above) ⊎ ((q : Piece) × Contains qs q × (least_piece qs f above ≡ f q))
least-piece-reached [] f above = inl refl
least-piece-reached (p ∷ qs) f above =
    elim (least-piece-reached qs f (min above (f p))) as (λ _. (least_piece (p ∷ qs) f above ≡ above) ⊎ ((q : Piece) × Contains (p ∷ qs) q × (least_piece (p ∷ qs) f above ≡ f q))) [
      | inl a ↦ (elim (min-cases above (f p)) as (λ _. (least_piece (p ∷ qs) f above ≡ above) ⊎ ((q : Piece) × Contains (p ∷ qs) q × (least_piece (p ∷ qs) f above ≡ f q))) [
        | inl e ↦ inl (a ∙ e)
        | inr e ↦ inr (p, (0, omega arith, refl), a ∙ e)
      ])
      | inr w ↦ inr (w.0, (suc w.1.0, omega (arith, w.1.1), w.1.2), w.2)
    ]

differ : (a b : ℕ) → a ≢ b → nat_eq a b ≡ false
differ a b h = grind (arith, nat_tests)

-- where something is found, it is found on a step
pub record Taken (m : Rules) (targets : List ℤ) (c : Certificate) (i lane : ℕ) (cell : Cell) : Type 0 where
  pub q : Piece
  pub to : ℕ
  pub step : IsStep m targets c.level i lane cell q to
  pub is : found m targets c i lane cell ≡ q.cost + look_ahead m targets c (suc i) to q.bx

pub found-taken : (m : Rules) (targets : List ℤ) (c : Certificate) (i lane : ℕ) (cell : Cell) → (found m targets c i lane cell ≡ top) ⊎ Taken m targets c i lane cell
found-taken m targets c i lane cell =
    elim (least-reached m.decoder.heads (λ h. cond (may_take m first_only i lane h) (by_head m targets c i cell h) top) top) as (λ _. (found m targets c i lane cell ≡ top) ⊎ Taken m targets c i lane cell) [
      | inl e ↦ inl e
      | inr w ↦ (elim (bool-cases (may_take m first_only i lane w.0)) as (λ _. (found m targets c i lane cell ≡ top) ⊎ Taken m targets c i lane cell) [
        | inr not ↦ inl (w.2 ∙ cond-false _ _ _ not)
        | inl may ↦ (let e1 = w.2 ∙ cond-true _ _ _ may in
            elim (least-reached (m.decoder.symbols (i % m.decoder.samples)) (by_symbol m targets c i cell w.0) top) as (λ _. (found m targets c i lane cell ≡ top) ⊎ Taken m targets c i lane cell) [
              | inl e ↦ inl (e1 ∙ e)
              | inr s ↦ (elim (least-piece-reached (m.image w.0 (i % m.decoder.samples) s.0 (cell_box (grid m) c.level cell) (get_or targets i (pos 0))) (way m targets c i w.0) top) as (λ _. (found m targets c i lane cell ≡ top) ⊎ Taken m targets c i lane cell) [
                | inl e ↦ inl (e1 ∙ (s.2 ∙ e))
                | inr q ↦ inr (record {
                  q = q.0;
                  to = lane_at m w.0 (suc i);
                  step = record { head = w.0; head_fits = w.1; takes = may; symbol = s.0; symbol_fits = s.1; is_piece = q.1; leads = refl };
                  is = e1 ∙ (s.2 ∙ q.2);
                })
              ])
            ])
      ])
    ]

pub near-between : (low high : Cell) (x y : ℕ) → IsCornered low high → x < span_count low.a high.a → y < span_count low.b high.b → IsBetween low high (cell_near low x y)
near-between low high x y o p q =
    let a = o.a_order in let b = o.b_order in
    record { a_low = grind (arith, ints); a_high = grind (arith, ints); b_low = grind (arith, ints); b_high = grind (arith, ints) }

pub listed-reached : (low high : Cell) → IsCornered low high → (listed : Cell → Option ℕ) (unlisted : ℕ)
    → (least_listed low high listed unlisted ≡ top) ⊎ ((c : Cell) × IsBetween low high c × (least_listed low high listed unlisted ≡ or_else (listed c) unlisted))
listed-reached low high o listed unlisted =
    elim (least-reached (span_count low.a high.a) (λ x. least (span_count low.b high.b) (λ y. or_else (listed (cell_near low x y)) unlisted) top) top)
    as (λ _. (least_listed low high listed unlisted ≡ top) ⊎ ((c : Cell) × IsBetween low high c × (least_listed low high listed unlisted ≡ or_else (listed c) unlisted))) [
      | inl e ↦ inl e
      | inr x ↦ (elim (least-reached (span_count low.b high.b) (λ y. or_else (listed (cell_near low x.0 y)) unlisted) top)
          as (λ _. (least_listed low high listed unlisted ≡ top) ⊎ ((c : Cell) × IsBetween low high c × (least_listed low high listed unlisted ≡ or_else (listed c) unlisted))) [
            | inl e ↦ inl (x.2 ∙ e)
            | inr y ↦ inr (cell_near low x.0 y.0, near-between low high x.0 y.0 o x.1 y.1, x.2 ∙ y.2)
          ])
    ]

pub record Bounding (m : Rules) (targets : List ℤ) (c : Certificate) (most w : ℕ) : Type 0 where
  laws : HasLaws m
  fit : FitTargets m c.blocks targets
  lev : IsTrue (is_level c.level)
  small : most ≤ top
  searched : IsSearched m targets most c
  le : w ≤ most
  whole : (cost : ℕ) → IsWhole m targets c.blocks c.level cost → w ≤ cost

-- from sample i on: a path's cost and what is listed at its end come to w
pub record Above (m : Rules) (targets : List ℤ) (c : Certificate) (most w i : ℕ) : Type 0 where
  above : (lane : ℕ) (cell : Cell) (cost v : ℕ) → Opens m targets c.blocks c.level most i lane cell cost → c.listed i lane cell ≡ Some v → w ≤ cost + v

-- a cell that a longer path leads to
pub cell-above : (m : Rules) (targets : List ℤ) (c : Certificate) (most w : ℕ) → Bounding m targets c most w → (i lane : ℕ) (cell : Cell) (cost : ℕ) (k : Taken m targets c i lane cell) (next : Cell)
    → Opens m targets c.blocks c.level most i lane cell cost → suc i < c.blocks * m.decoder.samples → IsTrue (m.is_box (suc i % m.decoder.samples) k.q.bx) → Meets m c.level k.q.bx next
    → Above m targets c most w (suc i) → w ≤ cost + k.q.cost + or_else (c.listed (suc i) k.to next) (rest m first_only targets c.blocks (suc i) k.to k.q.bx)
cell-above m targets c most w s i lane cell cost k next o below box meets ih =
    let whole_rest = rest m first_only targets c.blocks (suc i) k.to k.q.bx in
    let cell_rest = rest m first_only targets c.blocks (suc i) k.to (cell_box (grid m) c.level next) in
    let alike : whole_rest ≡ cell_rest = rest-alike m s.laws targets c.blocks c.level (suc i) k.to k.q.bx next s.lev box meets in
    let g = cost + k.q.cost in
    let opens : g + cell_rest < most → Opens m targets c.blocks c.level most (suc i) k.to next g = λ lt. (lane, cell, cost, k.q, o, k.step, meets, below, refl, lt) in
    let which = lt-or-ge (g + cell_rest) most in
    let le = s.le in
    elim (option-cases (c.listed (suc i) k.to next)) [
      | inl none ↦ (
          let q = or-else-none (c.listed (suc i) k.to next) whole_rest none in
          elim which [
            | inl lt ↦ absurd (let a = s.searched.all (suc i) k.to next g (opens lt) in let b = a.1 in cc)
            | inr ge ↦ omega arith
          ])
      | inr some ↦ (
          let q = or-else-some (c.listed (suc i) k.to next) whole_rest some.0 some.1 in
          elim which [
            | inl lt ↦ (let a = ih.above k.to next g some.0 (opens lt) some.1 in omega arith)
            | inr ge ↦ (
                let other = s.searched.only (suc i) k.to next some.0 some.1 in
                let cheap = opens-below m targets c.blocks c.level most (suc i) k.to next other.0 other.1 in
                let a = ih.above k.to next other.0 some.0 other.1 some.1 in
                omega arith)
          ])
    ]

pub taken-above : (m : Rules) (targets : List ℤ) (c : Certificate) (most w : ℕ) → Bounding m targets c most w → (i lane : ℕ) (cell : Cell) (cost : ℕ) (k : Taken m targets c i lane cell)
    → Opens m targets c.blocks c.level most i lane cell cost → suc i < c.blocks * m.decoder.samples → Above m targets c most w (suc i)
    → w ≤ cost + k.q.cost + look_ahead m targets c (suc i) k.to k.q.bx
taken-above m targets c most w s i lane cell cost k o below ih =
    let is_cell = opens-cell m s.laws targets c.blocks c.level most i lane cell cost s.fit s.lev o in
    let box = step-box m s.laws targets c.blocks c.level i lane cell k.q k.to s.fit s.lev (omega arith) is_cell k.step in
    let corners = box-cornered m s.laws c.level (suc i % m.decoder.samples) k.q.bx s.lev (mod-lt (suc i) s.laws.machine.some_samples) box in
    let ahead = cond-false (nat_eq (suc i) (c.blocks * m.decoder.samples)) 0 (look m targets c (suc i) k.to k.q.bx) (differ _ _ (omega arith)) in
    let le = s.le in let small = s.small in
    elim (listed-reached (cell_of (grid m) c.level (low_corner k.q.bx)) (cell_of (grid m) c.level (high_corner k.q.bx)) corners (c.listed (suc i) k.to) (rest m first_only targets c.blocks (suc i) k.to k.q.bx)) [
      | inl e ↦ (let e' : look m targets c (suc i) k.to k.q.bx ≡ top = e in omega arith)
      | inr n ↦ (
          let e' : look m targets c (suc i) k.to k.q.bx ≡ or_else (c.listed (suc i) k.to n.0) (rest m first_only targets c.blocks (suc i) k.to k.q.bx) = n.2 in
          let a = cell-above m targets c most w s i lane cell cost k n.0 o below box n.1 ih in omega arith)
    ]

pub searched-above : (m : Rules) (targets : List ℤ) (c : Certificate) (most w : ℕ) → Bounding m targets c most w → (count i : ℕ) → i + suc count ≡ c.blocks * m.decoder.samples → Above m targets c most w i
searched-above m targets c most w s zero i e = record {
  above = λ lane cell cost v o l. (
      let worth = s.searched.worth i lane cell v l in
      let le = s.le in let small = s.small in
      elim (found-taken m targets c i lane cell) [
        | inl t ↦ omega arith
        | inr k ↦ (
            let a = s.whole (cost + k.q.cost) (record { i = i; lane = lane; cell = cell; before = cost; q = k.q; to = k.to; leads = opens-leads m targets c.blocks c.level most i lane cell cost o; last = omega arith; step = k.step; costs = refl }) in
            let is = k.is in omega arith)
      ]);
}
searched-above m targets c most w s (suc count) i e = record {
  above = λ lane cell cost v o l. (
      let worth = s.searched.worth i lane cell v l in
      let le = s.le in let small = s.small in
      elim (found-taken m targets c i lane cell) [
        | inl t ↦ omega arith
        | inr k ↦ (
            let a = taken-above m targets c most w s i lane cell cost k o (omega arith) (searched-above m targets c most w s count (suc i) (omega arith)) in
            let is = k.is in omega arith)
      ]);
}

-- each number that is at most U and at most every whole relaxed path is at most the value
pub value-above : (m : Rules) → HasLaws m → (targets : List ℤ) (c : Certificate) (most w : ℕ) → FitTargets m c.blocks targets → IsTrue (is_level c.level)
    → 0 < c.blocks → most ≤ top → IsSearched m targets most c → w ≤ most → ((cost : ℕ) → IsWhole m targets c.blocks c.level cost → w ≤ cost) → w ≤ value m targets c
value-above m laws targets c most w fit lev some_blocks small s le whole =
    let cell = cell_of (grid m) c.level start in
    let r = rest m first_only targets c.blocks 0 65535 (cell_box (grid m) c.level cell) in
    let zm : 0 % m.decoder.samples ≡ 0 = mod-eq_of_lt laws.machine.some_samples in
    let zd : 0 / m.decoder.samples ≡ 0 = div-eq_of_lt laws.machine.some_samples in
    let floor : r ≡ floors_from m first_only targets 0 c.blocks = rw (zm, zd, sub-zero) refl in
    let whole_search : Bounding m targets c most w = record { laws = laws; fit = fit; lev = lev; small = small; searched = s; le = le; whole = whole } in
    elim (lt-or-ge (0 + r) most) [
      | inr ge ↦ omega arith
      | inl lt ↦ (
          let o : Opens m targets c.blocks c.level most 0 65535 cell 0 = (refl, refl, refl, lt) in
          let l = s.all 0 65535 cell 0 o in
          let count : 0 + suc (c.blocks * m.decoder.samples - 1) ≡ c.blocks * m.decoder.samples = (let p = laws.machine.some_samples in let q = mul-pos some_blocks p in omega arith) in
          let a = (searched-above m targets c most w whole_search (c.blocks * m.decoder.samples - 1) 0 count).above 65535 cell 0 l.0 o l.1 in
          let e = or-else-some (c.listed 0 65535 cell) 0 l.0 l.1 in
          omega arith)
    ]
