-- What an accepted certificate shows is at most the error of every legal list.
use Rattle.std.proofs.Common.{◌≡◌, ℕ, zero, suc, ◌+◌, ◌-◌, ◌*◌, ◌/◌, ◌%◌, ◌<◌, ◌≤◌, List, length, get_or, arith, refl, ap, sym, ◌∙◌, ◌⊎◌, inl, inr, subst, true, false, IsTrue, if◌then◌else◌, ◌==◌, ℤ, pos, Option, Some, None}
use Rattle.std.specs.Prelude.{◌+ℤ◌, ◌-ℤ◌, ◌≤ℤ◌, unsigned_abs}
use Rattle.std.proofs.lemmas.Bool.{cond-true, cond-false}
use Rattle.std.proofs.lemmas.Bool.Decides.{nat_tests}
use Rattle.std.proofs.lemmas.Int.{ints}
use Rattle.std.proofs.lemmas.Nat.{div-add-mod'}
use Rattle.std.proofs.Math.Nat.{mod-lt, mod-eq_of_lt}
use Rattle.adpcm_nums.specs.LeastValue.{least}
use Rattle.adpcm_nums.specs.Sample.{AreSamples}
use Rattle.adpcm_nums.proofs.LeastValueLaws.{least-below}
use Rattle.machine_core.specs.declared.boxes.Bx.{Bx}
use Rattle.machine_core.specs.declared.boxes.Cell.{Cell}
use Rattle.machine_core.specs.declared.state.State.{State}
use Rattle.machine_core.specs.Blocks.{Blocks, IsLegal, first_only, head_at, symbol_at, step_at}
use Rattle.machine_core.specs.Boxed.{IsBoxed, IsMove, place_after}
use Rattle.machine_core.specs.Boxes.{InBox, low_corner, high_corner}
use Rattle.machine_core.specs.Cells.{is_level, cell_of, cell_box, is_cell, IsBetween}
use Rattle.machine_core.specs.Decoder.{start, miss}
use Rattle.machine_core.specs.Floors.{top, may_take, rest, floor_of_blocks}
use Rattle.machine_core.specs.Rules.{Rules, IsMachine, grid}
use Rattle.machine_core.specs.Sums.{sum_after, sum_of}
use Rattle.machine_core.proofs.Places.{block-of, place-of, block-below, not-first}
use Rattle.machine_core.proofs.States.{step-fits, is-sample-at}
use Rattle.box_layers.specs.Looking.{or_else, span_count, cell_near, look_over}
use Rattle.box_layers.specs.Certificates.{Certificate, lane_at, look, look_ahead, way, by_symbol, by_head, found, IsAccepted, value}
use Rattle.box_layers.proofs.LeastPieces.{least-piece-below}

-- a legal list, an accepted certificate, and what is known of cells and floors
pub record Given (r : Rules) (targets : List ℤ) (c : Certificate) (list : Blocks) : Type 0 where
  pub laws : IsMachine r
  pub boxed : IsBoxed r
  pub level : IsTrue (is_level c.level)
  pub legal : IsLegal r.decoder c.blocks first_only list
  pub count : length targets ≡ c.blocks * r.decoder.samples
  pub range : AreSamples targets
  pub accepted : IsAccepted r targets c
  pub held : (at : State) → InBox at (cell_box (grid r) c.level (cell_of (grid r) c.level at))
  pub are_cells : (at : State) → IsTrue (r.decoder.is_state at) → IsTrue (is_cell (grid r) c.level (cell_of (grid r) c.level at))
  pub between : (bx : Bx) (at : State) → InBox at bx → IsBetween (cell_of (grid r) c.level (low_corner bx)) (cell_of (grid r) c.level (high_corner bx)) (cell_of (grid r) c.level at)
  pub rests : (i lane : ℕ) (bx : Bx) (at : State) → i < c.blocks * r.decoder.samples → IsTrue (r.is_box (i % r.decoder.samples) bx) → IsTrue (r.decoder.is_state at)
      → InBox at bx → IsTrue (may_take r first_only i lane (head_at r.decoder list i))
      → rest r first_only targets c.blocks i lane bx ≤ sum_after r.decoder (miss r.decoder targets) list at i (c.blocks * r.decoder.samples - i)

or-else-below : (o : Option ℕ) (d s : ℕ) → ((v : ℕ) → o ≡ Some v → v ≤ s) → d ≤ s → or_else o d ≤ s
or-else-below (Some v) d s f g = f v refl
or-else-below None d s f g = g

near : (low z : ℤ) → low ≤ℤ z → low +ℤ pos (unsigned_abs (z -ℤ low)) ≡ z
near low z h = grind (arith, ints)

near-count : (low z high : ℤ) → low ≤ℤ z → z ≤ℤ high → unsigned_abs (z -ℤ low) < span_count low high
near-count low z high h k = grind (arith, ints)

cell-near : (low c : Cell) → low.a ≤ℤ c.a → low.b ≤ℤ c.b → cell_near low (unsigned_abs (c.a -ℤ low.a)) (unsigned_abs (c.b -ℤ low.b)) ≡ c
cell-near low c h k =
    let p = near low.a c.a h in let q = near low.b c.b k in
    let mk : ℤ → ℤ → Cell = λ a b. record { a = a; b = b } in
    ap (λ a. mk a (low.b +ℤ pos (unsigned_abs (c.b -ℤ low.b)))) p ∙ ap (mk c.a) q

-- a look is at most what a cell that the box meets is worth
pub look-below : (r : Rules) (level : ℕ) (listed : Cell → Option ℕ) (unlisted : ℕ) (bx : Bx) (cell : Cell)
    → IsBetween (cell_of (grid r) level (low_corner bx)) (cell_of (grid r) level (high_corner bx)) cell → look_over r level listed unlisted bx ≤ or_else (listed cell) unlisted
look-below r level listed unlisted bx cell k =
    let low = cell_of (grid r) level (low_corner bx) in
    let high = cell_of (grid r) level (high_corner bx) in
    let x = unsigned_abs (cell.a -ℤ low.a) in
    let y = unsigned_abs (cell.b -ℤ low.b) in
    let first : look_over r level listed unlisted bx ≤ least (span_count low.b high.b) (λ y'. or_else (listed (cell_near low x y')) unlisted) top
    = least-below _ _ _ x (near-count low.a cell.a high.a k.a_low k.a_high) in
    let second : least (span_count low.b high.b) (λ y'. or_else (listed (cell_near low x y')) unlisted) top ≤ or_else (listed (cell_near low x y)) unlisted
    = least-below _ _ _ y (near-count low.b cell.b high.b k.b_low k.b_high) in
    let e = ap (λ c. or_else (listed c) unlisted) (cell-near low cell k.a_low k.b_low) in
    omega arith

-- the sample after one within a block, and after its last
pub place-within : (i n : ℕ) → suc (i % n) < n → suc i % n ≡ suc (i % n)
place-within i n h = place-of (i / n) n (suc (i % n)) (suc i) (omega (arith, div-add-mod' i n)) h

pub block-within : (i n : ℕ) → suc (i % n) < n → suc i / n ≡ i / n
block-within i n h = block-of (i / n) n (suc (i % n)) (suc i) (omega (arith, div-add-mod' i n)) h

pub place-over : (i n : ℕ) → 0 < n → suc (i % n) ≡ n → suc i % n ≡ 0
place-over i n some h = place-of (suc (i / n)) n 0 (suc i) (omega (arith, div-add-mod' i n)) some

pub block-over : (i n : ℕ) → 0 < n → suc (i % n) ≡ n → suc i / n ≡ suc (i / n)
block-over i n some h = block-of (suc (i / n)) n 0 (suc i) (omega (arith, div-add-mod' i n)) some

less-or-last : (x n : ℕ) → x < n → (suc x < n) ⊎ (suc x ≡ n)
less-or-last x n h = grind arith

equal-test : (x y : ℕ) → x ≡ y → (x == y) ≡ true
equal-test x y h = grind (arith, nat_tests)

less-test : (x y : ℕ) → x < y → (x == y) ≡ false
less-test x y h = grind (arith, nat_tests)

zero-or-more : (x : ℕ) → (x ≡ 0) ⊎ (0 < x)
zero-or-more x = grind arith

pub place-is : (r : Rules) → IsMachine r → (i : ℕ) → place_after r.decoder (i % r.decoder.samples) ≡ suc i % r.decoder.samples
place-is r laws i =
    elim (less-or-last (i % r.decoder.samples) r.decoder.samples (mod-lt i laws.some_samples)) [
      | inl h ↦ (let e = place-within i r.decoder.samples h in cond-false (i % r.decoder.samples + 1 == r.decoder.samples) 0 (i % r.decoder.samples + 1) (less-test _ _ (omega arith)) ∙ omega arith)
      | inr h ↦ (let e = place-over i r.decoder.samples laws.some_samples h in cond-true (i % r.decoder.samples + 1 == r.decoder.samples) 0 (i % r.decoder.samples + 1) (equal-test _ _ (omega arith)) ∙ omega arith)
    ]

-- the lane after a sample is the lane of the next sample's head
lane-next : (r : Rules) → IsMachine r → (list : Blocks) (i : ℕ) → lane_at r (head_at r.decoder list i) (suc i) ≡ lane_at r (head_at r.decoder list (suc i)) (suc i)
lane-next r laws list i =
    elim (less-or-last (i % r.decoder.samples) r.decoder.samples (mod-lt i laws.some_samples)) [
      | inl h ↦ (let d = block-within i r.decoder.samples h in rw d refl)
      | inr h ↦ (let e = place-over i r.decoder.samples laws.some_samples h in rw e refl)
    ]

-- the head of a legal list may be taken in its own lane
takes : (r : Rules) (targets : List ℤ) (c : Certificate) (list : Blocks) → Given r targets c list → (i : ℕ) → i < c.blocks * r.decoder.samples
    → may_take r first_only i (lane_at r (head_at r.decoder list i) i) (head_at r.decoder list i) ≡ true
takes r targets c list given i h =
    let allowed = given.legal.obeys.allowed (i / r.decoder.samples) (block-below i r.decoder.samples c.blocks h) in
    elim (zero-or-more (i % r.decoder.samples)) [
      | inl z ↦ rw z allowed
      | inr later ↦ (let no = not-first (i % r.decoder.samples) later in rw no (equal-test _ _ refl))
    ]

-- what is looked up at sample i is at most the rest of the error, from every state of the box
record Ahead (r : Rules) (targets : List ℤ) (c : Certificate) (list : Blocks) (at : State) (i count : ℕ) : Type 0 where
  ahead : (bx : Bx) → InBox at bx → IsTrue (r.is_box (i % r.decoder.samples) bx)
      → look_ahead r targets c i (lane_at r (head_at r.decoder list i) i) bx ≤ sum_after r.decoder (miss r.decoder targets) list at i count

-- what is listed for the state's cell is at most the rest of the error
listed-below : (r : Rules) (targets : List ℤ) (c : Certificate) (list : Blocks) → Given r targets c list
    → (i count v : ℕ) (at : State) → i < c.blocks * r.decoder.samples → IsTrue (r.decoder.is_state at) → Ahead r targets c list (step_at r.decoder list i at) (suc i) count
    → c.listed i (lane_at r (head_at r.decoder list i) i) (cell_of (grid r) c.level at) ≡ Some v → v ≤ sum_after r.decoder (miss r.decoder targets) list at i (suc count)
listed-below r targets c list given i count v at below is_state ih e =
    let laws = given.laws in
    let head = head_at r.decoder list i in
    let lane = lane_at r head i in
    let p = i % r.decoder.samples in
    let s = symbol_at list i in
    let cell = cell_of (grid r) c.level at in
    let box = cell_box (grid r) c.level cell in
    let t = get_or targets i (pos 0) in
    let move : IsMove r head p s = record {
      head_fits = given.legal.in_range.heads_fit (i / r.decoder.samples) (block-below i r.decoder.samples c.blocks below);
      place_fits = mod-lt i laws.some_samples;
      symbol_fits = given.legal.in_range.symbols_fit i below;
    } in
    let is_box = given.boxed.cells_fit c.level p cell given.level (mod-lt i laws.some_samples) (given.are_cells at is_state) in
    let is_target = is-sample-at targets given.range i (omega (arith, given.count)) in
    let cover = given.boxed.covers head p s box t at move is_box is_target is_state (given.held at) in
    let q = cover.piece in
    let piece_box = given.boxed.pieces_fit head p s box t q move is_box is_target cover.there in
    let piece_here : IsTrue (r.is_box (suc i % r.decoder.samples) q.bx) = subst (λ (z : ℕ). IsTrue (r.is_box z q.bx)) (place-is r laws i) piece_box in
    let next = ih.ahead q.bx cover.holds piece_here in
    let next_here = subst (λ (z : ℕ). look_ahead r targets c (suc i) z q.bx ≤ sum_after r.decoder (miss r.decoder targets) list (step_at r.decoder list i at) (suc i) count) (sym (lane-next r laws list i)) next in
    let got = given.accepted i lane cell v e in
    let f1 : found r targets c i lane cell ≤ (if may_take r first_only i lane head then by_head r targets c i cell head else top) = least-below _ _ _ head move.head_fits in
    let f2 = cond-true (may_take r first_only i lane head) (by_head r targets c i cell head) top (takes r targets c list given i below) in
    let f3 : by_head r targets c i cell head ≤ by_symbol r targets c i cell head s = least-below _ _ _ s move.symbol_fits in
    let f4 : by_symbol r targets c i cell head s ≤ way r targets c i head q = least-piece-below _ _ _ q cover.there in
    let cheap : q.cost ≤ miss r.decoder targets i (step_at r.decoder list i at) = cover.cheap in
    omega (arith, got.1)

ahead-below : (r : Rules) (targets : List ℤ) (c : Certificate) (list : Blocks) → Given r targets c list
    → (count i : ℕ) (at : State) → i + count ≡ c.blocks * r.decoder.samples → IsTrue (r.decoder.is_state at) → Ahead r targets c list at i count
ahead-below r targets c list given zero i at e is_state = record {
  ahead = λ bx inside box. (
      let end = equal-test i (c.blocks * r.decoder.samples) (omega arith) in
      let q = cond-true (i == c.blocks * r.decoder.samples) 0 (look r targets c i (lane_at r (head_at r.decoder list i) i) bx) end in omega arith);
}
ahead-below r targets c list given (suc count) i at e is_state = record {
  ahead = λ bx inside box. (
      let lane = lane_at r (head_at r.decoder list i) i in
      let below : i < c.blocks * r.decoder.samples = omega arith in
      let no = less-test i (c.blocks * r.decoder.samples) below in
      let q = cond-false (i == c.blocks * r.decoder.samples) 0 (look r targets c i lane bx) no in
      let w = look-below r c.level (c.listed i lane) (rest r first_only targets c.blocks i lane bx) bx (cell_of (grid r) c.level at) (given.between bx at inside) in
      let floor = given.rests i lane bx at below box is_state inside (takes r targets c list given i below) in
      let left : c.blocks * r.decoder.samples - i ≡ suc count = omega arith in
      let floor_here = subst (λ (z : ℕ). rest r first_only targets c.blocks i lane bx ≤ sum_after r.decoder (miss r.decoder targets) list at i z) left floor in
      let next = step-fits r given.laws c.blocks list given.legal.in_range i at below is_state in
      let ih = ahead-below r targets c list given count (suc i) (step_at r.decoder list i at) (omega arith) next in
      let o = or-else-below (c.listed i lane (cell_of (grid r) c.level at)) (rest r first_only targets c.blocks i lane bx) (sum_after r.decoder (miss r.decoder targets) list at i (suc count))
      (λ v is. listed-below r targets c list given i count v at below is_state ih is) floor_here in
      omega arith);
}

pub value-below : (r : Rules) (targets : List ℤ) (c : Certificate) (list : Blocks) → Given r targets c list
    → floor_of_blocks r first_only targets c.blocks ≤ sum_of r.decoder list targets c.blocks → value r targets c ≤ sum_of r.decoder list targets c.blocks
value-below r targets c list given floor =
    let all = c.blocks * r.decoder.samples in
    let place : 0 % r.decoder.samples ≡ 0 = mod-eq_of_lt given.laws.some_samples in
    let lane : lane_at r (head_at r.decoder list 0) 0 ≡ 65535 = rw place refl in
    let first = cell_of (grid r) c.level start in
    let o = or-else-below (c.listed 0 65535 first) 0 (sum_of r.decoder list targets c.blocks)
    (λ v is.
    (let below = (given.accepted 0 65535 first v is).0 in
    let next = step-fits r given.laws c.blocks list given.legal.in_range 0 start below given.laws.start_fits in
    let ahead = ahead-below r targets c list given (all - 1) 1 (step_at r.decoder list 0 start) (omega arith) next in
    let is_here = subst (λ (z : ℕ). c.listed 0 z first ≡ Some v) (sym lane) is in
    let b = listed-below r targets c list given 0 (all - 1) v start below given.laws.start_fits ahead is_here in
    let count : suc (all - 1) ≡ all = omega arith in
    subst (λ (z : ℕ). v ≤ sum_after r.decoder (miss r.decoder targets) list start 0 z) count b))
    (omega arith) in
    omega arith
