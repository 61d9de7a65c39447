-- From the pieces of one node to a whole layer.
use Rattle.std.proofs.Common.{◌≡◌, ℕ, suc, ◌+◌, ◌%◌, ◌<◌, ◌≤◌, ◌⊎◌, inl, inr, ℤ, pos, List, length, get_or, arith, ap, sym, ◌∙◌, subst, IsTrue, true, false}
use Rattle.std.specs.List.{Contains}
use Rattle.std.proofs.Math.Nat.{mod-lt}
use borrow.Author.Count.{below_more}
use Rattle.open_cells.specs.declared.node.Node.{Node}
use Rattle.open_cells.specs.Nodes.{HasNode, Keeps, IsMerged}
use Rattle.open_cells.proofs.Merging.{has-kept, keeps-trans, same-get}
use Rattle.open_cells.specs.declared.search.Search.{Search}
use Rattle.open_cells.specs.Reach.{HasVisited, IsSearch, IsNext, IsOpen, AreOpen, AreBoxes, Reaches, ReachesAll, ReachesBySymbols, ReachesByHeads, ReachesFrom, image_at, IsLayer}
use Rattle.open_cells.proofs.Pieces.{reaches-kept}
use Rattle.block_steps.specs.Tables.{IsSpot}
use Rattle.block_steps.specs.declared.spots.Spot.{Spot}
use Rattle.box_layers.specs.Certificates.{lane_at}
use Rattle.machine_core.specs.Blocks.{first_only}
use Rattle.machine_core.specs.Boxed.{place_after}
use Rattle.machine_core.specs.Cells.{cell_box, is_cell}
use Rattle.machine_core.specs.Floors.{may_take}
use Rattle.machine_core.specs.Rules.{Rules, grid}
use Rattle.machine_core.specs.declared.boxes.Cell.{Cell}
use Rattle.machine_core.specs.declared.pieces.Piece.{Piece}
use Rattle.open_cells.specs.Paths.{HasLaws, IsStep}
use Rattle.block_steps.proofs.Alike.{one-lane, lanes-next}
use Rattle.box_layers.proofs.Sound.{place-is}
use Rattle.machine_core.proofs.States.{is-sample-at}
use Rattle.machine_core.specs.Boxed.{IsMove}
use Rattle.open_cells.proofs.Paths.{opens-cell}
use Rattle.std.proofs.Common.{◌-◌}

pub boxes-at : (m : Rules) (s : Search) (at next : Spot) (cell : Cell) (head symbol : ℕ) (pieces : List Piece) → HasLaws m → IsSearch m s → IsSpot m at → IsNext m s at next
    → IsTrue (is_cell (grid m) s.level cell) → head < m.decoder.heads → symbol < m.decoder.symbols (at.index % m.decoder.samples) → pieces ≡ image_at m s at.index cell head symbol → AreBoxes m next.place pieces
boxes-at m s at next cell head symbol pieces laws search spot n ok h k e = record {
  each = λ q c. (
      let there = subst (λ (z : List Piece). Contains z q) e c in
      let w = n.within in let ni = n.index in
      let i = at.index in
      let p = i % m.decoder.samples in
      let size = search.fit.count in let end = search.end in
      let place = mod-lt i laws.machine.some_samples in
      let move : IsMove m head p symbol = record { head_fits = h; place_fits = place; symbol_fits = k } in
      let b = laws.boxed.pieces_fit head p symbol (cell_box (grid m) s.level cell) (get_or s.targets.now i (pos 0)) q move (laws.boxed.cells_fit s.level p cell search.level place ok)
      (is-sample-at s.targets.now search.fit.range i (omega arith)) there in
      let to : place_after m.decoder p ≡ next.place = place-is m laws.machine i ∙ (ap (λ z. z % m.decoder.samples) (sym ni) ∙ sym n.spot.place) in
      subst (λ (z : ℕ). IsTrue (m.is_box z q.bx)) to b);
}

beyond : (x q slack rest most : ℕ) → slack ≡ most - 1 - x → slack < q → x + q + rest < most → ⊥
beyond x q slack rest most e h l = omega arith

-- a symbol outside the range costs too much
pub outside-reaches : (m : Rules) (s : Search) (at : Spot) (head symbol slack lane : ℕ) (x : Node) (made : List Node) → HasLaws m → IsSearch m s → IsSpot m at → at.index < s.end → IsTrue (is_cell (grid m) s.level x.cell)
    → head < m.decoder.heads → symbol < m.decoder.symbols (at.index % m.decoder.samples) → slack ≡ s.most - 1 - x.cost
    → (symbol < m.first_symbol at.place (get_or s.targets.now at.index (pos 0)) slack) ⊎ (m.last_symbol at.place (get_or s.targets.now at.index (pos 0)) slack < symbol)
    → ReachesAll m s at.index x (image_at m s at.index x.cell head symbol) lane made
outside-reaches m s at head symbol slack lane x made laws search spot within ok h k e out q there c meets low =
    let i = at.index in
    let p = i % m.decoder.samples in
    let t = get_or s.targets.now i (pos 0) in
    let place = mod-lt i laws.machine.some_samples in
    let move : IsMove m head p symbol = record { head_fits = h; place_fits = place; symbol_fits = k } in
    let size = search.fit.count in let end = search.end in
    let out' = subst (λ (z : ℕ). (symbol < m.first_symbol z t slack) ⊎ (m.last_symbol z t slack < symbol)) spot.place out in
    let cost = laws.boxed.spanned head p symbol (cell_box (grid m) s.level x.cell) t slack q move (laws.boxed.cells_fit s.level p x.cell search.level place ok)
    (is-sample-at s.targets.now search.fit.range i (omega arith)) out' there in
    absurd (beyond x.cost q.cost slack _ s.most e cost low)

-- so before the range nothing is left to do
pub symbols-start : (m : Rules) (s : Search) (at : Spot) (head slack first lane : ℕ) (x : Node) (made : List Node) → HasLaws m → IsSearch m s → IsSpot m at → at.index < s.end → IsTrue (is_cell (grid m) s.level x.cell)
    → head < m.decoder.heads → slack ≡ s.most - 1 - x.cost → first ≡ m.first_symbol at.place (get_or s.targets.now at.index (pos 0)) slack
    → (symbol : ℕ) → symbol < first → ReachesAll m s at.index x (image_at m s at.index x.cell head symbol) lane made
symbols-start m s at head slack first lane x made laws search spot within ok h e is symbol low =
    let t = get_or s.targets.now at.index (pos 0) in
    let place = mod-lt at.index laws.machine.some_samples in
    let here = spot.place in
    let size = search.fit.count in let end = search.end in
    let spans = laws.boxed.spans at.place t slack (omega arith) (is-sample-at s.targets.now search.fit.range at.index (omega arith)) in
    let a = spans.0 in let b = spans.1 in
    let n : m.decoder.symbols at.place ≡ m.decoder.symbols (at.index % m.decoder.samples) = ap m.decoder.symbols here in
    outside-reaches m s at head symbol slack lane x made laws search spot within ok h (omega arith) e (inl (omega arith))

below-or-from : (i n : ℕ) → (i < n) ⊎ (n ≤ i)
below-or-from i n = grind arith

-- nor behind it
pub symbols-all : (m : Rules) (s : Search) (at : Spot) (head slack end n lane : ℕ) (x : Node) (made : List Node) → HasLaws m → IsSearch m s → IsSpot m at → at.index < s.end → IsTrue (is_cell (grid m) s.level x.cell)
    → head < m.decoder.heads → slack ≡ s.most - 1 - x.cost → end ≡ suc (m.last_symbol at.place (get_or s.targets.now at.index (pos 0)) slack) → end ≤ n
    → ((symbol : ℕ) → symbol < n → ReachesAll m s at.index x (image_at m s at.index x.cell head symbol) lane made)
    → (symbol : ℕ) → symbol < m.decoder.symbols (at.index % m.decoder.samples) → ReachesAll m s at.index x (image_at m s at.index x.cell head symbol) lane made
symbols-all m s at head slack end n lane x made laws search spot within ok h e is le reached symbol k =
    elim (below-or-from symbol n) as (λ _. ReachesAll m s at.index x (image_at m s at.index x.cell head symbol) lane made) [
      | inl low ↦ reached symbol low
      | inr high ↦ outside-reaches m s at head symbol slack lane x made laws search spot within ok h k e (inr (omega arith))
    ]

pub all-kept : (m : Rules) (s : Search) (i lane : ℕ) (x : Node) (pieces : List Piece) (a b : List Node) → Keeps a b → ReachesAll m s i x pieces lane a → ReachesAll m s i x pieces lane b
all-kept m s i lane x pieces a b k r q c = reaches-kept m s i lane x q a b k (r q c)

pub all-same : (m : Rules) (s : Search) (i lane to : ℕ) (x : Node) (pieces qs : List Piece) (a : List Node) → pieces ≡ qs → lane ≡ to → ReachesAll m s i x pieces lane a → ReachesAll m s i x qs to a
all-same m s i lane to x pieces qs a e f r = subst (λ (z : ℕ). ReachesAll m s i x qs z a) f (subst (λ (z : List Piece). ReachesAll m s i x z lane a) e r)

pub symbols-kept : (m : Rules) (s : Search) (i head n : ℕ) (x : Node) (a b : List Node) → Keeps a b → ReachesBySymbols m s i x head n a → ReachesBySymbols m s i x head n b
symbols-kept m s i head n x a b k r j h = all-kept m s i _ x _ a b k (r j h)

pub symbols-more : (m : Rules) (s : Search) (i head n : ℕ) (x : Node) (a b : List Node) → Keeps a b → ReachesBySymbols m s i x head n a → ReachesAll m s i x (image_at m s i x.cell head n) (lane_at m head (suc i)) b
    → ReachesBySymbols m s i x head (n + 1) b
symbols-more m s i head n x a b k r here = below_more (λ (j : ℕ). ReachesAll m s i x (image_at m s i x.cell head j) (lane_at m head (suc i)) b) n (symbols-kept m s i head n x a b k r) here

pub heads-kept : (m : Rules) (s : Search) (i n : ℕ) (x : Node) (a b : List Node) → Keeps a b → ReachesByHeads m s i x n a → ReachesByHeads m s i x n b
heads-kept m s i n x a b k r j h t = symbols-kept m s i j _ x a b k (r j h t)

-- after n heads
abbrev Headed : Rules → Search → ℕ → Node → List Node → List Node → ℕ → Type 0
Headed m s i x old now n = HasVisited m s (suc i) old now (ReachesByHeads m s i x n)

pub headed-more : (m : Rules) (s : Search) (i : ℕ) (x : Node) (old mid now : List Node) (n : ℕ) → Headed m s i x old mid n → AreOpen m s (suc i) now → Keeps mid now
    → ReachesBySymbols m s i x n (m.decoder.symbols (i % m.decoder.samples)) now → Headed m s i x old now (n + 1)
headed-more m s i x old mid now n h o k here = record {
  opened = o;
  kept = keeps-trans old mid now h.kept k;
  reached = below_more (λ (j : ℕ). may_take m first_only i x.lane j ≡ true → ReachesBySymbols m s i x j (m.decoder.symbols (i % m.decoder.samples)) now) n (heads-kept m s i n x mid now k h.reached) (λ t. here);
}

pub headed-not : (m : Rules) (s : Search) (i : ℕ) (x : Node) (old now : List Node) (n : ℕ) → Headed m s i x old now n → may_take m first_only i x.lane n ≡ false → Headed m s i x old now (n + 1)
headed-not m s i x old now n h not = record {
  opened = h.opened;
  kept = h.kept;
  reached = below_more (λ (j : ℕ). may_take m first_only i x.lane j ≡ true → ReachesBySymbols m s i x j (m.decoder.symbols (i % m.decoder.samples)) now) n h.reached (λ t. absurd (let q = t in let r = not in cc));
}

pub headed-now : (m : Rules) (s : Search) (i : ℕ) (x : Node) (old now now' : List Node) (n : ℕ) → now' ≡ now → Headed m s i x old now n → Headed m s i x old now' n
headed-now m s i x old now now' n e h = subst (λ (z : List Node). Headed m s i x old z n) (sym e) h

pub from-more : (m : Rules) (s : Search) (i n : ℕ) (front a b : List Node) (e : Node) → n < length front → Keeps a b → ReachesFrom m s i front n a → ReachesByHeads m s i (get_or front n e) m.decoder.heads b → ReachesFrom m s i front (n + 1) b
from-more m s i n front a b e h k r here j d lt =
    below_more (λ (j : ℕ). (d : Node) → ReachesByHeads m s i (get_or front j d) m.decoder.heads b) n (λ j l d. heads-kept m s i m.decoder.heads _ a b k (r j d l))
    (λ d. subst (λ (z : Node). ReachesByHeads m s i z m.decoder.heads b) (same-get front n e d h) here) j lt d

has-cheaper : (xs : List Node) (lane : ℕ) (cell : Cell) (cost most : ℕ) → cost ≤ most → HasNode xs lane cell cost → HasNode xs lane cell most
has-cheaper xs lane cell cost most le h = record { node = h.node; there = h.there; lane_is = h.lane_is; cell_is = h.cell_is; cheap = (let c = h.cheap in omega arith) }

step-same : (m : Rules) (targets : List ℤ) (level i lane lane' : ℕ) (c c' : Cell) (q : Piece) (to : ℕ) → lane ≡ lane' → c ≡ c' → IsStep m targets level i lane c q to → IsStep m targets level i lane' c' q to
step-same m targets level i lane lane' c c' q to e f st = subst (λ (z : ℕ). IsStep m targets level i z c' q to) e (subst (λ (z : Cell). IsStep m targets level i lane z q to) f st)

-- what is reached from a node of the front, by any step
reached-by : (m : Rules) (s : Search) (i : ℕ) (x : Node) (made : List Node) (q : Piece) (to : ℕ) → ReachesByHeads m s i x m.decoder.heads made → IsStep m s.targets.now s.level i x.lane x.cell q to → Reaches m s i x q to made
reached-by m s i x made q to r st = subst (λ (z : ℕ). Reaches m s i x q z made) (sym st.leads) (r st.head st.head_fits st.takes st.symbol st.symbol_fits q st.is_piece)

pub layer-of : (m : Rules) (s : Search) (i : ℕ) (front made new : List Node) → IsLayer m s i front → ReachesFrom m s i front (length front) made → AreOpen m s (suc i) made → IsMerged made new → IsLayer m s (suc i) new
layer-of m s i front made new f r o g = record {
  rising = g.rising;
  opened = record { each = λ x c. o.each x (g.from x c) };
  all = λ lane cell cost p. (
      let h = f.all p.0 p.1 p.2 p.4 in
      let x = h.node in
      let k = h.there.0 in
      let by = subst (λ (z : Node). ReachesByHeads m s i z m.decoder.heads made) h.there.2 (r k x h.there.1) in
      let st = step-same m s.targets.now s.level i p.0 x.lane p.1 x.cell p.3 lane (sym h.lane_is) (sym h.cell_is) p.5 in
      let cheap = h.cheap in let e = p.8 in let small = p.9 in
      let there = reached-by m s i x made p.3 lane by st cell p.6 (omega arith) in
      has-kept made new lane cell cost g.kept (has-cheaper made lane cell (x.cost + p.3.cost) cost (omega arith) there));
}

pub open-from : (m : Rules) (s : Search) (i : ℕ) (made new : List Node) → AreOpen m s i made → ((x : Node) → Contains new x → Contains made x) → AreOpen m s i new
open-from m s i made new o f = record { each = λ x c. o.each x (f x c) }

pub node-cell : (m : Rules) (s : Search) (i : ℕ) (x : Node) → HasLaws m → IsSearch m s → IsOpen m s i x → IsTrue (is_cell (grid m) s.level x.cell)
node-cell m s i x laws search o = opens-cell m laws s.targets.now s.blocks s.level s.most i x.lane x.cell x.cost search.fit search.level o

-- one head of a lane reaches what all of them reach
pub lane-reaches : (m : Rules) (s : Search) (i head : ℕ) (x : Node) (made : List Node) → HasLaws m → 0 < i % m.decoder.samples → head < m.decoder.heads → may_take m first_only i x.lane head ≡ true
    → ReachesBySymbols m s i x head (m.decoder.symbols (i % m.decoder.samples)) made → ReachesByHeads m s i x m.decoder.heads made
lane-reaches m s i head x made laws p hl u r j jl t symbol sl =
    let e = one-lane m i x.lane head j p u t in
    all-same m s i (lane_at m head (suc i)) (lane_at m j (suc i)) x (image_at m s i x.cell head symbol) (image_at m s i x.cell j symbol) made
    (laws.boxed.images_alike head j (i % m.decoder.samples) symbol (cell_box (grid m) s.level x.cell) (get_or s.targets.now i (pos 0)) hl jl p (mod-lt i laws.machine.some_samples) e)
    (lanes-next m laws.machine i head j hl jl p e) (r symbol sl)

pub none-reaches : (m : Rules) (s : Search) (i : ℕ) (x : Node) (made : List Node) → ((k : ℕ) → k < m.decoder.heads → may_take m first_only i x.lane k ≡ false) → ReachesByHeads m s i x m.decoder.heads made
none-reaches m s i x made none j jl t = absurd (let q = none j jl in let r = t in cc)
