-- A piece of a node's image, and the cells that it meets.
use Rattle.std.proofs.Common.{◌≡◌, ℕ, zero, suc, ◌+◌, ◌*◌, ◌%◌, ◌<◌, ◌≤◌, inl, inr, List, [], ◌∷◌, length, get_or, arith, refl, ap, sym, ◌∙◌, subst, min, IsTrue, Result, Ok, Err, OnOk}
use Rattle.open_cells.specs.declared.node.Node.{Node}
use Rattle.open_cells.specs.Nodes.{HasNode, Keeps}
use Rattle.open_cells.proofs.Merging.{has-kept}
use Rattle.open_cells.specs.declared.search.Search.{Search}
use Rattle.open_cells.specs.Reach.{IsSearch, IsNext, IsOpen, AreOpen, IsNewOrOld, Reaches}
use Rattle.block_steps.specs.declared.spots.Spot.{Spot}
use Rattle.box_layers.specs.Looking.{IsCornered}
use Rattle.machine_core.specs.Blocks.{first_only}
use Rattle.machine_core.specs.Boxes.{high_corner, low_corner}
use Rattle.machine_core.specs.Cells.{IsBetween, cell_box, cell_of}
use Rattle.machine_core.specs.Floors.{rest, top}
use Rattle.machine_core.specs.Rules.{Rules, grid}
use Rattle.machine_core.specs.declared.boxes.Cell.{Cell}
use Rattle.machine_core.specs.declared.pieces.Piece.{Piece}
use Rattle.open_cells.specs.Paths.{HasLaws, IsStep, Meets}
use Rattle.block_steps.proofs.Steps.{place-fits}
use Rattle.open_cells.proofs.Paths.{box-cornered, rest-alike}
use Rattle.machine_core.specs.Rules.{IsMachine}
use Rattle.machine_core.specs.Boxed.{IsBoxed}
use Rattle.machine_core.specs.Cells.{is_level}

pub laws-of : (m : Rules) → IsMachine m → IsBoxed m → {s : Search} → IsSearch m s → HasLaws m
laws-of m machine boxed search = record { machine = machine; boxed = boxed; filed = search.filed }

-- what is known where a piece is tried
pub record Tried (m : Rules) (s : Search) (i lane : ℕ) (x : Node) (q : Piece) (cost floor : ℕ) : Type 0 where
  pub laws : HasLaws m
  pub lev : IsTrue (is_level s.level)
  pub box : IsTrue (m.is_box (suc i % m.decoder.samples) q.bx)
  pub within : suc i < s.blocks * m.decoder.samples
  pub x_open : IsOpen m s i x
  pub step : IsStep m s.targets.now s.level i x.lane x.cell q lane
  pub most : s.most ≤ top
  pub cost_is : cost ≡ min (x.cost + q.cost) top
  pub floor_is : floor ≡ min top (rest m first_only s.targets.now s.blocks (suc i) lane q.bx)

pub tried : (m : Rules) (s : Search) (at next : Spot) (lane : ℕ) (x : Node) (q : Piece) (cost floor : ℕ) → HasLaws m → IsSearch m s → IsNext m s at next → IsTrue (m.is_box next.place q.bx)
    → IsOpen m s at.index x → IsStep m s.targets.now s.level at.index x.lane x.cell q lane → cost ≡ min (x.cost + q.cost) top → floor ≡ min top (rest m first_only s.targets.now s.blocks next.index lane q.bx)
    → Tried m s at.index lane x q cost floor
tried m s at next lane x q cost floor laws search n box o step ce fe = record {
  laws = laws;
  lev = search.level;
  box = subst (λ (z : ℕ). IsTrue (m.is_box z q.bx)) (n.spot.place ∙ ap (λ z. z % m.decoder.samples) n.index) box;
  within = (let w = n.within in let i = n.index in let e = search.end in omega arith);
  x_open = o;
  step = step;
  most = search.most;
  cost_is = ce;
  floor_is = fe ∙ ap (λ z. min top (rest m first_only s.targets.now s.blocks z lane q.bx)) n.index;
}

pub piece-opens : (m : Rules) (s : Search) (i lane : ℕ) (x : Node) (q : Piece) (cost floor : ℕ) (low high : Cell) (old new : List Node) → Tried m s i lane x q cost floor
    → min (cost + floor) top < s.most → low ≡ cell_of (grid m) s.level (low_corner q.bx) → high ≡ cell_of (grid m) s.level (high_corner q.bx)
    → AreOpen m s (suc i) old → IsNewOrOld low high lane cost old new → AreOpen m s (suc i) new
piece-opens m s i lane x q cost floor low high old new t small le he o f = record {
  each = λ y c. (elim (f y c) as (λ _. IsOpen m s (suc i) y) [
    | inl p ↦ o.each y p
    | inr n ↦ (
        let b1 = subst (λ (z : Cell). IsBetween z high y.cell) le n.between in
        let meets : Meets m s.level q.bx y.cell = subst (λ (z : Cell). IsBetween (cell_of (grid m) s.level (low_corner q.bx)) z y.cell) he b1 in
        let alike = rest-alike m t.laws s.targets.now s.blocks s.level (suc i) lane q.bx y.cell t.lev t.box meets in
        let here : rest m first_only s.targets.now s.blocks (suc i) y.lane (cell_box (grid m) s.level y.cell) ≡ rest m first_only s.targets.now s.blocks (suc i) lane q.bx = ap (λ z. rest m first_only s.targets.now s.blocks (suc i) z (cell_box (grid m) s.level y.cell)) n.lane_is ∙ sym alike in
        let ce = n.cost_is in let cc' = t.cost_is in let ff = t.floor_is in let mm = t.most in
        let cost' : y.cost ≡ x.cost + q.cost = omega arith in
        (x.lane, x.cell, x.cost, q, t.x_open, subst (λ (z : ℕ). IsStep m s.targets.now s.level i x.lane x.cell q z) (sym n.lane_is) t.step, meets, t.within, cost', omega arith))
  ]);
}

pub piece-reaches : (m : Rules) (s : Search) (i lane : ℕ) (x : Node) (q : Piece) (cost floor : ℕ) (low high : Cell) (new : List Node) → Tried m s i lane x q cost floor
    → min (cost + floor) top < s.most → low ≡ cell_of (grid m) s.level (low_corner q.bx) → high ≡ cell_of (grid m) s.level (high_corner q.bx)
    → ((c : Cell) → IsBetween low high c → HasNode new lane c cost) → Reaches m s i x q lane new
piece-reaches m s i lane x q cost floor low high new t small le he f c meets lt =
    let b1 = subst (λ (z : Cell). IsBetween z (cell_of (grid m) s.level (high_corner q.bx)) c) (sym le) meets in
    let b2 = subst (λ (z : Cell). IsBetween low z c) (sym he) b1 in
    let h = f c b2 in
    let cc' = t.cost_is in let mm = t.most in
    subst (λ (z : ℕ). HasNode new lane c z) (omega arith) h

pub piece-shut : (m : Rules) (s : Search) (i lane : ℕ) (x : Node) (q : Piece) (cost floor : ℕ) (new : List Node) → Tried m s i lane x q cost floor
    → s.most ≤ min (cost + floor) top → Reaches m s i x q lane new
piece-shut m s i lane x q cost floor new t big c meets lt =
    let alike = rest-alike m t.laws s.targets.now s.blocks s.level (suc i) lane q.bx c t.lev t.box meets in
    let cc' = t.cost_is in let ff = t.floor_is in let mm = t.most in
    absurd (omega arith)

pub reaches-kept : (m : Rules) (s : Search) (i lane : ℕ) (x : Node) (q : Piece) (a b : List Node) → Keeps a b → Reaches m s i x q lane a → Reaches m s i x q lane b
reaches-kept m s i lane x q a b k r c meets lt = has-kept a b lane c (x.cost + q.cost) k (r c meets lt)

pub cornered-at : (m : Rules) (s : Search) (at next : Spot) (q : Piece) (low high : Cell) → HasLaws m → IsSearch m s → IsNext m s at next → IsTrue (m.is_box next.place q.bx)
    → low ≡ cell_of (grid m) s.level (low_corner q.bx) → high ≡ cell_of (grid m) s.level (high_corner q.bx) → IsCornered low high
cornered-at m s at next q low high laws search n box le he =
    let c = box-cornered m laws s.level next.place q.bx search.level (place-fits m laws.machine next n.spot) box in
    subst (λ (z : Cell). IsCornered low z) (sym he) (subst (λ (z : Cell). IsCornered z (cell_of (grid m) s.level (high_corner q.bx))) (sym le) c)

pub on-ok : {E : Type 0} {P Q : Type 0} (r : Result (Unit {0}) E) → OnOk r P → (P → Q) → OnOk r Q
on-ok (Ok x) p f = f p
on-ok (Err e) p f = tt

pub on-ok-both : {E : Type 0} {P Q R : Type 0} (r : Result (Unit {0}) E) → OnOk r P → OnOk r Q → (P → Q → R) → OnOk r R
on-ok-both (Ok x) p q f = f p q
on-ok-both (Err e) p q f = tt

pub same-piece : (xs : List Piece) (i : ℕ) (d e : Piece) → i < length xs → get_or xs i d ≡ get_or xs i e
same-piece [] i d e h = absurd (omega arith)
same-piece (x ∷ xs) zero d e h = refl
same-piece (x ∷ xs) (suc i) d e h = same-piece xs i d e (omega arith)

pub reaches-at : (m : Rules) (s : Search) (i lane : ℕ) (x : Node) (pieces : List Piece) (n : ℕ) (made : List Node) (e d : Piece) → n < length pieces
    → Reaches m s i x (get_or pieces n e) lane made → Reaches m s i x (get_or pieces n d) lane made
reaches-at m s i lane x pieces n made e d h r = subst (λ (z : Piece). Reaches m s i x z lane made) (same-piece pieces n e d h) r
