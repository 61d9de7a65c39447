-- One step along the least way, where every cell is one state.
use Rattle.std.proofs.Common.{◌≡◌, ◌≢◌, ℕ, suc, ◌+◌, ◌-◌, ◌*◌, ◌%◌, ◌<◌, ◌≤◌, ◌⊎◌, inl, inr, ℤ, pos, List, [], ◌∷◌, ◌++◌, length, get_or, arith, refl, ap, sym, ◌∙◌, subst, min, IsTrue, true, false, Option, Some, nat_eq, length-append}
use Rattle.std.specs.Prelude.{◌+ℤ◌, ◌≤ℤ◌}
use Rattle.std.specs.List.{Contains}
use Rattle.std.proofs.Math.Nat.{mod-lt, mod-eq_of_lt}
use Rattle.std.proofs.lemmas.Int.{ints}
use Rattle.open_cells.specs.Nodes.{listed_in}
use Rattle.open_cells.specs.declared.node.Node.{Node}
use Rattle.open_cells.proofs.Order.{same-cell}
use Rattle.open_cells.specs.Counts.{nodes_at}
use Rattle.branch_bound.specs.Worth.{layer_certificate, layers_certificate}
use Rattle.branch_bound.proofs.Picks.{first-lane}
use Rattle.branch_bound.specs.Walks.{IsListed, IsWalk, IsGround, list_of, begun}
use Rattle.branch_bound.proofs.Lists.{HeadsNow, begun-first, agree-now, state-same, sum-same, sum-last, get-front, get-last, later-inside}
use Rattle.adpcm_nums.specs.LeastValue.{least}
use Rattle.box_layers.proofs.Sound.{block-within}
use Rattle.box_layers.specs.Certificates.{by_symbol, found, lane_at, way, least_piece, look, look_ahead}
use Rattle.box_layers.specs.Looking.{cell_near, least_listed, or_else, span_count}
use Rattle.branch_bound.proofs.Above.{lt-or-ge, option-cases, or-else-none, or-else-some}
use Rattle.machine_core.specs.Blocks.{IsLegal, first_only, head_at, state_at, symbol_at}
use Rattle.machine_core.specs.Boxes.{point_box}
use Rattle.machine_core.specs.Cells.{IsBetween, cell_box, cell_of}
use Rattle.machine_core.specs.Decoder.{cost_of, start}
use Rattle.machine_core.specs.Floors.{may_take, rest, top}
use Rattle.machine_core.specs.Rules.{Rules, grid}
use Rattle.machine_core.specs.Sums.{cost_at, sum_from, sum_of}
use Rattle.machine_core.specs.declared.boxes.Cell.{Cell}
use Rattle.machine_core.specs.declared.pieces.Piece.{Piece}
use Rattle.machine_core.specs.declared.state.State.{State}
use Rattle.open_cells.proofs.Paths.{opens-below}
use Rattle.open_cells.specs.Paths.{HasLaws, IsStep, Opens}
use Rattle.std.proofs.lemmas.Bool.{cond-false, cond-true}
use Rattle.std.proofs.lemmas.Bool.Decides.{nat_tests}
use Rattle.adpcm_nums.specs.Sample.{IsSample}
use Rattle.machine_core.proofs.CellLaws.{exact-box}
use Rattle.machine_core.proofs.Places.{block-of, place-of}
use Rattle.machine_core.specs.Blocks.{Blocks}
use Rattle.machine_core.specs.declared.choice.Choice.{Choice}
use Rattle.branch_bound.specs.Searched.{IsChoice, blocks_of}
use Rattle.branch_bound.specs.declared.levels.LevelCert.{LevelCert}
use Rattle.branch_bound.specs.Lists.{IsShown, level_certificate}
use Rattle.box_layers.specs.Certificates.{Certificate, IsAccepted}
use Rattle.branch_bound.specs.Searched.{IsSearched}

same : (x y : ℕ) → x ≡ y → nat_eq x y ≡ true
same x y h = grind (arith, nat_tests)

differ : (x y : ℕ) → x ≢ y → nat_eq x y ≡ false
differ x y h = grind (arith, nat_tests)

span-one : (z : ℤ) → span_count z z ≡ 1
span-one z = omega (arith, ints)

near-none : (z : ℤ) → z +ℤ pos 0 ≡ z
near-none z = omega (arith, ints)

least-one : (n : ℕ) (f : ℕ → ℕ) → n ≡ 1 → least n f top ≡ min top (f 0)
unfolding least
least-one n f e = ap (λ k. least k f top) e

-- the least over one cell
one-listed : (c : Cell) (listed : Cell → Option ℕ) (r : ℕ) → least_listed c c listed r ≡ min top (min top (or_else (listed c) r))
one-listed c listed r =
    let at : cell_near c 0 0 ≡ c = same-cell (cell_near c 0 0) c (near-none c.a) (near-none c.b) in
    least-one (span_count c.a c.a) (λ x. least (span_count c.b c.b) (λ y. or_else (listed (cell_near c x y)) r) top) (span-one c.a)
    ∙ (ap (min top) (least-one (span_count c.b c.b) (λ y. or_else (listed (cell_near c 0 y)) r) (span-one c.b)) ∙ ap (λ z. min top (min top (or_else (listed z) r))) at)

-- a step that is taken: its state and cost, and what is left after it
pub record IsTaken (m : Rules) (targets : List ℤ) (blocks i head symbol : ℕ) (at : State) : Type 0 where
  pub laws : HasLaws m
  pub target : IsSample (get_or targets i (pos 0))
  pub state : IsTrue (m.decoder.is_state at)
  pub head_fits : head < m.decoder.heads
  pub symbol_fits : symbol < m.decoder.symbols (i % m.decoder.samples)

abbrev pub after : Rules → ℕ → ℕ → ℕ → State → State
after m i head symbol at = m.decoder.step head (i % m.decoder.samples) symbol at

abbrev pub paid : Rules → List ℤ → ℕ → ℕ → ℕ → State → ℕ
paid m targets i head symbol at = cost_of m.decoder (after m i head symbol at) (get_or targets i (pos 0))

abbrev pub piece_of : Rules → List ℤ → ℕ → ℕ → ℕ → State → Piece
piece_of m targets i head symbol at = record { bx = point_box (after m i head symbol at); cost = paid m targets i head symbol at }

image-is : (m : Rules) (targets : List ℤ) (blocks i head symbol : ℕ) (at : State) → IsTaken m targets blocks i head symbol at
    → m.image head (i % m.decoder.samples) symbol (cell_box (grid m) 0 (cell_of (grid m) 0 at)) (get_or targets i (pos 0)) ≡ piece_of m targets i head symbol at ∷ []
image-is m targets blocks i head symbol at t =
    ap (λ b. m.image head (i % m.decoder.samples) symbol b (get_or targets i (pos 0))) (exact-box (grid m) at)
    ∙ t.laws.boxed.single head (i % m.decoder.samples) symbol (get_or targets i (pos 0)) at (record { head_fits = t.head_fits; place_fits = mod-lt i t.laws.machine.some_samples; symbol_fits = t.symbol_fits }) t.target t.state

pub after-state : (m : Rules) (targets : List ℤ) (blocks i head symbol : ℕ) (at : State) → IsTaken m targets blocks i head symbol at → IsTrue (m.decoder.is_state (after m i head symbol at))
after-state m targets blocks i head symbol at t = t.laws.machine.steps head (i % m.decoder.samples) symbol at t.head_fits (mod-lt i t.laws.machine.some_samples) t.symbol_fits t.state

-- what is left is the step's cost and what lies ahead
pub left-is : (m : Rules) (targets : List ℤ) (blocks i head symbol left : ℕ) (at : State) (next : List Node) → IsTaken m targets blocks i head symbol at
    → by_symbol m targets (layer_certificate 0 blocks next) i (cell_of (grid m) 0 at) head symbol ≡ left → left < top
    → left ≡ paid m targets i head symbol at + look_ahead m targets (layer_certificate 0 blocks next) (suc i) (lane_at m head (suc i)) (point_box (after m i head symbol at))
left-is m targets blocks i head symbol left at next t e small =
    let w = way m targets (layer_certificate 0 blocks next) i head in
    let q = ap (λ (z : List Piece). least_piece z w top) (image-is m targets blocks i head symbol at t) in
    let r : min top (w (piece_of m targets i head symbol at)) ≡ left = sym q ∙ e in
    omega arith

ahead-end : (m : Rules) (targets : List ℤ) (blocks i lane : ℕ) (at : State) (next : List Node) → i ≡ blocks * m.decoder.samples → look_ahead m targets (layer_certificate 0 blocks next) i lane (point_box at) ≡ 0
ahead-end m targets blocks i lane at next e = cond-true (nat_eq i (blocks * m.decoder.samples)) 0 (look m targets (layer_certificate 0 blocks next) i lane (point_box at)) (same i (blocks * m.decoder.samples) e)

ahead-inside : (m : Rules) (targets : List ℤ) (blocks i lane : ℕ) (at : State) (next : List Node) → i < blocks * m.decoder.samples
    → look_ahead m targets (layer_certificate 0 blocks next) i lane (point_box at) ≡ min top (min top (or_else (listed_in next lane (cell_of (grid m) 0 at)) (rest m first_only targets blocks i lane (point_box at))))
ahead-inside m targets blocks i lane at next h =
    cond-false (nat_eq i (blocks * m.decoder.samples)) 0 (look m targets (layer_certificate 0 blocks next) i lane (point_box at)) (differ i (blocks * m.decoder.samples) (λ e. omega arith))
    ∙ one-listed (cell_of (grid m) 0 at) (listed_in next lane) (rest m first_only targets blocks i lane (point_box at))

le-self : (a : ℤ) → a ≤ℤ a
le-self a = omega (arith, ints)

between-self : (c : Cell) → IsBetween c c c
between-self c = record { a_low = le-self c.a; a_high = le-self c.a; b_low = le-self c.b; b_high = le-self c.b }

step-is : (m : Rules) (targets : List ℤ) (blocks i lane head symbol : ℕ) (at : State) → IsTaken m targets blocks i head symbol at → may_take m first_only i lane head ≡ true
    → IsStep m targets 0 i lane (cell_of (grid m) 0 at) (piece_of m targets i head symbol at) (lane_at m head (suc i))
step-is m targets blocks i lane head symbol at t takes = record {
  head = head;
  head_fits = t.head_fits;
  takes = takes;
  symbol = symbol;
  symbol_fits = t.symbol_fits;
  is_piece = subst (λ (z : List Piece). Contains z (piece_of m targets i head symbol at)) (sym (image-is m targets blocks i head symbol at t)) (0, omega arith, refl);
  leads = refl;
}

-- what is listed after a step
pub listed-after : (m : Rules) (targets : List ℤ) (blocks most total : ℕ) (layers : List (List Node)) (i old head symbol cost left left' : ℕ) (at : State) → IsGround m targets blocks most layers
    → IsTaken m targets blocks i head symbol at → IsListed m targets blocks most layers i old cost left at → may_take m first_only i (lane_at m old i) head ≡ true
    → by_symbol m targets (layer_certificate 0 blocks (nodes_at layers (suc i))) i (cell_of (grid m) 0 at) head symbol ≡ left → cost + left ≡ total → total < most → most ≤ top → suc i < blocks * m.decoder.samples
    → left' ≡ left - paid m targets i head symbol at → IsListed m targets blocks most layers (suc i) head (cost + paid m targets i head symbol at) left' (after m i head symbol at)
listed-after m targets blocks most total layers i old head symbol cost left left' at g t l takes e ce small fits within le =
    let next = nodes_at layers (suc i) in
    let lane = lane_at m head (suc i) in
    let at' = after m i head symbol at in
    let cell = cell_of (grid m) 0 at' in
    let c1 = paid m targets i head symbol at in
    let r1 = rest m first_only targets blocks (suc i) lane (point_box at') in
    let lt : left < top = omega arith in
    let li = left-is m targets blocks i head symbol left at next t e lt in
    let ai = ahead-inside m targets blocks (suc i) lane at' next within in
    let way : left ≡ c1 + or_else (listed_in next lane cell) r1 = omega arith in
    let box : rest m first_only targets blocks (suc i) lane (cell_box (grid m) 0 cell) ≡ r1 = ap (rest m first_only targets blocks (suc i) lane) (exact-box (grid m) at') in
    let step = step-is m targets blocks i (lane_at m old i) head symbol at t takes in
    let q = piece_of m targets i head symbol at in
    let opens : l.path + c1 + rest m first_only targets blocks (suc i) lane (cell_box (grid m) 0 cell) < most → Opens m targets blocks 0 most (suc i) lane cell (l.path + c1) =
    λ small'. (lane_at m old i, cell_of (grid m) 0 at, l.path, q, l.opened, step, between-self cell, within, refl, small') in
    let cheap = l.cheap in
    elim (option-cases (listed_in next lane cell)) [
      | inl none ↦ (
          let o = or-else-none (listed_in next lane cell) r1 none in
          let open' = opens (omega arith) in
          absurd (let s = (g.searched.all (suc i) lane cell (l.path + c1) open').1 in cc))
      | inr some ↦ (
          let o = or-else-some (listed_in next lane cell) r1 some.0 some.1 in
          let v : some.0 ≡ left' = omega arith in
          let is = some.1 ∙ ap (λ (z : ℕ). Some z) v in
          elim (lt-or-ge (l.path + c1 + rest m first_only targets blocks (suc i) lane (cell_box (grid m) 0 cell)) most) [
            | inl less ↦ record { listed = is; path = l.path + c1; opened = opens less; cheap = omega arith }
            | inr more ↦ (
                let other = g.searched.only (suc i) lane cell some.0 some.1 in
                let b = opens-below m targets blocks 0 most (suc i) lane cell other.0 other.1 in
                record { listed = is; path = other.0; opened = other.1; cheap = omega arith })
          ])
    ]

-- what is listed on the way is what is found
pub found-is : (m : Rules) (targets : List ℤ) (blocks most total : ℕ) (layers : List (List Node)) (i head cost left : ℕ) (at : State) → IsGround m targets blocks most layers → IsListed m targets blocks most layers i head cost left at
    → cost + left ≡ total → total < most → found m targets (layer_certificate 0 blocks (nodes_at layers (suc i))) i (lane_at m head i) (cell_of (grid m) 0 at) ≡ left
found-is m targets blocks most total layers i head cost left at g l ce small =
    let w : min most (found m targets (layers_certificate 0 blocks layers) i (lane_at m head i) (cell_of (grid m) 0 at)) ≤ left = g.searched.worth i (lane_at m head i) (cell_of (grid m) 0 at) left l.listed in
    let a = (g.accepted i (lane_at m head i) (cell_of (grid m) 0 at) left l.listed).1 in
    omega arith

below-or : (j i : ℕ) → j < suc i → (j < i) ⊎ (j ≡ i)
below-or j i h = grind arith

-- one sample more
pub walk-more : (m : Rules) (targets : List ℤ) (blocks most total : ℕ) (layers : List (List Node)) (heads heads' symbols : List ℕ) (at : State) (old head symbol left left' i : ℕ) → IsGround m targets blocks most layers
    → IsWalk m targets blocks most total layers heads symbols at old left i → IsTaken m targets blocks i head symbol at → HeadsNow m heads heads' i head → may_take m first_only i (lane_at m old i) head ≡ true
    → by_symbol m targets (layer_certificate 0 blocks (nodes_at layers (suc i))) i (cell_of (grid m) 0 at) head symbol ≡ left → total < most → most ≤ top → i < blocks * m.decoder.samples
    → left' ≡ left - paid m targets i head symbol at → IsWalk m targets blocks most total layers heads' (symbols ++ symbol ∷ []) (after m i head symbol at) head left' (suc i)
walk-more m targets blocks most total layers heads heads' symbols at old head symbol left left' i g w t now takes e small fits within le =
    let l = list_of heads symbols in
    let k = list_of heads' (symbols ++ symbol ∷ []) in
    let a = agree-now m t.laws.machine heads heads' symbols symbol i head now w.head_count w.symbol_count in
    let c1 = paid m targets i head symbol at in
    let st : state_at m.decoder k start i ≡ at = sym (state-same m l k start i i a (omega arith)) ∙ sym w.state_is in
    let hd : head_at m.decoder k i ≡ head = now.last in
    let sy : symbol_at k i ≡ symbol = get-last symbols symbol i w.symbol_count in
    let f : ℕ → ℕ → State → State = λ x y z. m.decoder.step x (i % m.decoder.samples) y z in
    let state : state_at m.decoder k start (suc i) ≡ after m i head symbol at = ap (λ x. f x (symbol_at k i) (state_at m.decoder k start i)) hd ∙ (ap (λ y. f head y (state_at m.decoder k start i)) sy ∙ ap (f head symbol) st) in
    let cost : cost_at m.decoder k targets i ≡ c1 = ap (λ z. cost_of m.decoder z (get_or targets i (pos 0))) state in
    let before : sum_from m.decoder l targets 0 i ≡ sum_from m.decoder k targets 0 i = sum-same m l k targets i 0 i a (omega arith) in
    let last = sum-last m k targets i in
    let si = w.sum_is in
    let sum : sum_from m.decoder k targets 0 (suc i) ≡ sum_from m.decoder l targets 0 i + c1 = omega arith in
    let lt : left < top = omega arith in
    let li = left-is m targets blocks i head symbol left at (nodes_at layers (suc i)) t e lt in
    let paid_all : left ≡ c1 + left' = omega arith in
    record {
      state_is = sym state;
      sum_is = omega arith;
      symbol_count = (let n : length (symbols ++ symbol ∷ []) ≡ length symbols + 1 = length-append symbols (symbol ∷ []) in let q = w.symbol_count in omega arith);
      head_count = now.size;
      heads_fit = now.fit;
      heads_allowed = now.allowed;
      symbols_fit = λ j h. (elim (below-or j i h) [
        | inl less ↦ (let x = get-front symbols symbol j (let q = w.symbol_count in omega arith) in let y = w.symbols_fit j less in omega arith)
        | inr q ↦ subst (λ (z : ℕ). get_or (symbols ++ symbol ∷ []) z 0 < m.decoder.symbols (z % m.decoder.samples)) (sym q) (let x = get-last symbols symbol i w.symbol_count in let y = t.symbol_fits in omega arith)
      ]);
      head_is = λ h. sym (ap (λ z. get_or heads' z 0) (block-within i m.decoder.samples (later-inside m t.laws.machine i h)) ∙ now.last);
      ends = λ h. (let z = ahead-end m targets blocks (suc i) (lane_at m head (suc i)) (after m i head symbol at) (nodes_at layers (suc i)) h in omega arith);
      here = λ h. subst (λ (z : ℕ). IsListed m targets blocks most layers (suc i) head z left' (after m i head symbol at)) (sym sum)
          (listed-after m targets blocks most total layers i old head symbol (sum_from m.decoder l targets 0 i) left left' at g t (w.here within) takes e si small fits h le);
    }

pub walk-legal : (m : Rules) (targets : List ℤ) (blocks most total : ℕ) (layers : List (List Node)) (heads symbols : List ℕ) (at : State) (head left i : ℕ) → HasLaws m → IsWalk m targets blocks most total layers heads symbols at head left i
    → i ≡ blocks * m.decoder.samples → begun m i ≡ blocks → IsLegal m.decoder blocks first_only (list_of heads symbols) × (total ≡ sum_of m.decoder (list_of heads symbols) targets blocks)
walk-legal m targets blocks most total layers heads symbols at head left i laws w e b =
    let hc = w.head_count in let sc = w.symbol_count in let z = w.ends e in let si = w.sum_is in (
      record {
        in_range = record {
          head_count = hc ∙ b;
          symbol_count = sc ∙ e;
          heads_fit = λ j h. w.heads_fit j (omega arith);
          symbols_fit = λ j h. w.symbols_fit j (omega arith);
        };
        obeys = record { allowed = λ j h. w.heads_allowed j (omega arith) };
      },
      (let q = ap (sum_from m.decoder (list_of heads symbols) targets 0) e in omega arith),
    )

pub walk-starts : (m : Rules) (targets : List ℤ) (blocks most total : ℕ) (layers : List (List Node)) (heads symbols : List ℕ) (head left : ℕ) → HasLaws m → IsGround m targets blocks most layers → heads ≡ [] → symbols ≡ [] → left ≡ total
    → 0 < blocks * m.decoder.samples → listed_in (nodes_at layers 0) 65535 (cell_of (grid m) 0 start) ≡ Some total → IsWalk m targets blocks most total layers heads symbols start head left 0
walk-starts m targets blocks most total layers heads symbols head left laws g he se le some h =
    subst (λ (z : List ℕ). IsWalk m targets blocks most total layers z symbols start head left 0) (sym he) (subst (λ (z : List ℕ). IsWalk m targets blocks most total layers [] z start head left 0) (sym se)
    (subst (λ (z : ℕ). IsWalk m targets blocks most total layers [] [] start head z 0) (sym le) (record {
      state_is = refl;
      sum_is = omega arith;
      symbol_count = refl;
      head_count = refl;
      heads_fit = λ b x. absurd (omega arith);
      heads_allowed = λ b x. absurd (omega arith);
      symbols_fit = λ j x. absurd (omega arith);
      head_is = λ x. (let z : 0 % m.decoder.samples ≡ 0 = mod-eq_of_lt laws.machine.some_samples in absurd (omega arith));
      ends = λ x. absurd (omega arith);
      here = λ x. (
          let lane : lane_at m head 0 ≡ 65535 = first-lane m 0 head (mod-eq_of_lt laws.machine.some_samples) in
          let o = g.searched.only 0 65535 (cell_of (grid m) 0 start) total h in
          let free : o.0 ≡ 0 = o.1.2 in
          record {
            listed = subst (λ (z : ℕ). listed_in (nodes_at layers 0) z (cell_of (grid m) 0 start) ≡ Some total) (sym lane) h;
            path = o.0;
            opened = subst (λ (z : ℕ). Opens m targets blocks 0 most 0 z (cell_of (grid m) 0 start) o.0) (sym lane) o.1;
            cheap = omega arith;
          });
    })))

pub found-at : (m : Rules) (targets : List ℤ) (blocks most total : ℕ) (layers : List (List Node)) (heads symbols : List ℕ) (i head left : ℕ) (at : State) (next : List Node) (cell : Cell) → IsGround m targets blocks most layers
    → IsWalk m targets blocks most total layers heads symbols at head left i → i < blocks * m.decoder.samples → total < most → next ≡ nodes_at layers (suc i) → cell ≡ cell_of (grid m) 0 at
    → found m targets (layer_certificate 0 blocks next) i (lane_at m head i) cell ≡ left
found-at m targets blocks most total layers heads symbols i head left at next cell g w h small ne ce =
    ap (λ (z : List Node). found m targets (layer_certificate 0 blocks z) i (lane_at m head i) cell) ne
    ∙ (ap (found m targets (layer_certificate 0 blocks (nodes_at layers (suc i))) i (lane_at m head i)) ce
    ∙ found-is m targets blocks most total layers i head (sum_from m.decoder (list_of heads symbols) targets 0 i) left at g (w.here h) w.sum_is small)

pub walk-now : (m : Rules) (targets : List ℤ) (blocks most total : ℕ) (layers : List (List Node)) (heads heads' symbols symbols' : List ℕ) (at at' : State) (old head symbol left left' i place cost n' : ℕ) (target : ℤ) (next : List Node) (cell : Cell)
    → IsGround m targets blocks most layers → IsWalk m targets blocks most total layers heads symbols at old left i → IsTaken m targets blocks i head symbol at → HeadsNow m heads heads' i head → may_take m first_only i (lane_at m old i) head ≡ true
    → by_symbol m targets (layer_certificate 0 blocks next) i cell head symbol ≡ left → total < most → most ≤ top → i < blocks * m.decoder.samples
    → next ≡ nodes_at layers (suc i) → cell ≡ cell_of (grid m) 0 at → symbols' ≡ symbols ++ symbol ∷ [] → at' ≡ m.decoder.step head place symbol at → place ≡ i % m.decoder.samples → cost ≡ cost_of m.decoder at' target → target ≡ get_or targets i (pos 0) → left' ≡ left - cost → n' ≡ suc i
    → IsWalk m targets blocks most total layers heads' symbols' at' head left' n'
walk-now m targets blocks most total layers heads heads' symbols symbols' at at' old head symbol left left' i place cost n' target next cell g w t now takes e small fits within ne ce se ae pe coste te le nn =
    let state : at' ≡ after m i head symbol at = ae ∙ ap (λ z. m.decoder.step head z symbol at) pe in
    let paid' : cost ≡ paid m targets i head symbol at = coste ∙ (ap (λ (z : State). cost_of m.decoder z target) state ∙ ap (cost_of m.decoder (after m i head symbol at)) te) in
    let e' : by_symbol m targets (layer_certificate 0 blocks (nodes_at layers (suc i))) i (cell_of (grid m) 0 at) head symbol ≡ left =
    sym (ap (λ (z : List Node). by_symbol m targets (layer_certificate 0 blocks z) i cell head symbol) ne ∙ ap (λ z. by_symbol m targets (layer_certificate 0 blocks (nodes_at layers (suc i))) i z head symbol) ce) ∙ e in
    let r = walk-more m targets blocks most total layers heads heads' symbols at old head symbol left left' i g w t now takes e' small fits within (le ∙ ap (λ z. left - z) paid') in
    subst (λ (z : ℕ). IsWalk m targets blocks most total layers heads' symbols' at' head left' z) (sym nn)
    (subst (λ (z : State). IsWalk m targets blocks most total layers heads' symbols' z head left' (suc i)) (sym state)
    (subst (λ (z : List ℕ). IsWalk m targets blocks most total layers heads' z (after m i head symbol at) head left' (suc i)) (sym se) r))

pub walk-at : (m : Rules) (targets : List ℤ) (blocks most total : ℕ) (layers : List (List Node)) (heads symbols : List ℕ) (at : State) (head left i j : ℕ) → i ≡ j → IsWalk m targets blocks most total layers heads symbols at head left i
    → IsWalk m targets blocks most total layers heads symbols at head left j
walk-at m targets blocks most total layers heads symbols at head left i j e w = subst (λ (z : ℕ). IsWalk m targets blocks most total layers heads symbols at head left z) e w

-- all blocks have begun at the end
pub begun-all : (m : Rules) → HasLaws m → (blocks i : ℕ) → 0 < blocks → i ≡ blocks * m.decoder.samples → begun m i ≡ blocks
begun-all m laws blocks i h e =
    let p = laws.machine.some_samples in
    let z : i ≡ blocks * m.decoder.samples + 0 = omega arith in
    let d = block-of blocks m.decoder.samples 0 i z p in
    let r = place-of blocks m.decoder.samples 0 i z p in
    begun-first m laws.machine i r ∙ d

-- the list as a choice
pub choice-of : (m : Rules) (blocks : ℕ) (targets : List ℤ) (heads symbols : List ℕ) (total : ℕ) (c : Choice) → IsLegal m.decoder blocks first_only (list_of heads symbols) → total ≡ sum_of m.decoder (list_of heads symbols) targets blocks
    → c.heads ≡ heads → c.symbols ≡ symbols → c.sum ≡ total → IsChoice m blocks targets c
choice-of m blocks targets heads symbols total c legal sum he se te =
    let same : list_of heads symbols ≡ blocks_of c = ap (λ x. list_of x symbols) (sym he) ∙ ap (list_of c.heads) (sym se) in
    record {
      legal = subst (λ (z : Blocks). IsLegal m.decoder blocks first_only z) same legal;
      sum = te ∙ (sum ∙ ap (λ (z : Blocks). sum_of m.decoder z targets blocks) same);
    }

-- the layers of a certificate of level 0
pub ground-of : (m : Rules) (targets : List ℤ) (blocks most share : ℕ) (c : LevelCert) → IsShown m targets blocks most share c → c.level ≡ 0 → IsGround m targets blocks most c.layers
ground-of m targets blocks most share c s le =
    let same : level_certificate c ≡ layers_certificate 0 blocks c.layers = ap (λ z. layers_certificate z c.blocks c.layers) le ∙ ap (λ z. layers_certificate 0 z c.layers) s.blocks_are in
    record {
      rising = s.rising;
      searched = subst (λ (z : Certificate). IsSearched m targets most z) same (s.searched (λ e. omega arith));
      accepted = subst (λ (z : Certificate). IsAccepted m targets z) same s.cert.accepted;
    }
