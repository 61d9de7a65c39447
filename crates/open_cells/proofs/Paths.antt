-- What holds of every relaxed path.
use Rattle.std.proofs.Common.{◌≡◌, ℕ, zero, suc, ◌+◌, ◌-◌, ◌*◌, ◌/◌, ◌%◌, ◌<◌, List, get_or, arith, refl, ap, sym, ◌∙◌, subst, IsTrue, cond, ℤ, pos, min}
use Rattle.std.specs.Prelude.{◌+ℤ◌, ◌-ℤ◌, ◌≤ℤ◌, unsigned_abs, nat_eq}
use Rattle.std.proofs.lemmas.Int.{ints}
use Rattle.std.proofs.Math.Nat.{mod-lt}
use Rattle.adpcm_nums.specs.LeastValue.{least}
use Rattle.adpcm_nums.specs.Spans.{le-self}
use Rattle.machine_core.specs.declared.boxes.Bx.{Bx}
use Rattle.machine_core.specs.declared.boxes.Cell.{Cell}
use Rattle.machine_core.specs.declared.pieces.Piece.{Piece}
use Rattle.machine_core.specs.Blocks.{first_only}
use Rattle.machine_core.specs.Boxes.{InBox, low_corner, high_corner}
use Rattle.machine_core.specs.Boxed.{IsMove}
use Rattle.machine_core.specs.Cells.{cell_of, cell_box, is_cell, is_level}
use Rattle.machine_core.specs.Decoder.{start}
use Rattle.machine_core.specs.Floors.{may_take, rest, top, floors_from, head_floor, block_targets}
use Rattle.machine_core.specs.Rules.{Rules, grid}
use Rattle.machine_core.proofs.CellLaws.{between, cell-is, met, cell-small}
use Rattle.machine_core.proofs.States.{is-sample-at}
use Rattle.box_layers.specs.Looking.{IsCornered, span_count}
use Rattle.box_layers.proofs.Sound.{place-is}
use Rattle.open_cells.specs.Paths.{HasLaws, FitTargets, IsStep, Meets, Opens, Leads}

pub near : (low z : ℤ) → low ≤ℤ z → low +ℤ pos (unsigned_abs (z -ℤ low)) ≡ z
near low z h = grind (arith, ints)

pub near-count : (low z high : ℤ) → low ≤ℤ z → z ≤ℤ high → unsigned_abs (z -ℤ low) < span_count low high
near-count low z high h k = grind (arith, ints)

-- the corners of a box are those of the cells that it meets
pub box-cornered : (m : Rules) → HasLaws m → (level p : ℕ) (bx : Bx) → IsTrue (is_level level) → p < m.decoder.samples → IsTrue (m.is_box p bx)
    → IsCornered (cell_of (grid m) level (low_corner bx)) (cell_of (grid m) level (high_corner bx))
box-cornered m laws level p bx lev fits box =
    let low = low_corner bx in
    let high = high_corner bx in
    let inside : InBox low bx = record { in_a = record { above = le-self bx.a.lo; below = bx.a.order }; in_b = record { above = le-self bx.b.lo; below = bx.b.order } } in
    let b = between (grid m) level bx low lev inside in
    let states = laws.filed.corners p bx fits box in
    let small = cell-small m level (cell_of (grid m) level high) laws.boxed (cell-is m level high laws.machine lev states.1) in
    record { a_order = b.a_high; b_order = b.b_high; a_small = small.0.high }

least-same-below : (n : ℕ) (f g : ℕ → ℕ) (above : ℕ) → ((k : ℕ) → k < n → f k ≡ g k) → least n f above ≡ least n g above
unfolding least
least-same-below zero f g above e = refl
least-same-below (suc n) f g above e = let i = least-same-below n f g above (λ k h. e k (omega arith)) in let j = e n (omega arith) in ap (λ z. min z (f n)) i ∙ ap (min (least n g above)) j

-- the floor of a box is that of each cell that it meets
pub rest-alike : (m : Rules) → HasLaws m → (targets : List ℤ) (blocks level i lane : ℕ) (bx : Bx) (cell : Cell) → IsTrue (is_level level) → IsTrue (m.is_box (i % m.decoder.samples) bx) → Meets m level bx cell
    → rest m first_only targets blocks i lane bx ≡ rest m first_only targets blocks i lane (cell_box (grid m) level cell)
rest-alike m laws targets blocks level i lane bx cell lev box meets =
    let p = i % m.decoder.samples in
    let ts = block_targets m targets (i / m.decoder.samples) in
    let f = least-same-below m.decoder.heads (head_floor m first_only targets i lane bx) (head_floor m first_only targets i lane (cell_box (grid m) level cell)) top
    (λ h hl. ap (λ z. cond (may_take m first_only i lane h) z top) (laws.boxed.floors_met h p level bx cell ts lev hl (mod-lt i laws.machine.some_samples) box meets)) in
    ap (λ z. cond (nat_eq p 0) (floors_from m first_only targets (i / m.decoder.samples) (blocks - i / m.decoder.samples)) (z + floors_from m first_only targets (suc (i / m.decoder.samples)) (blocks - suc (i / m.decoder.samples)))) f

pub opens-leads : (m : Rules) (targets : List ℤ) (blocks level most i lane : ℕ) (cell : Cell) (cost : ℕ) → Opens m targets blocks level most i lane cell cost → Leads m targets level i lane cell cost
opens-leads m targets blocks level most zero lane cell cost o = (o.0, o.1, o.2)
opens-leads m targets blocks level most (suc i) lane cell cost o =
    (o.0, o.1, o.2, o.3, opens-leads m targets blocks level most i o.0 o.1 o.2 o.4, o.5, o.6, o.8)

-- a head and a symbol of a step
pub step-move : (m : Rules) → HasLaws m → (targets : List ℤ) (level i lane : ℕ) (cell : Cell) (q : Piece) (to : ℕ) → (s : IsStep m targets level i lane cell q to) → IsMove m s.head (i % m.decoder.samples) s.symbol
step-move m laws targets level i lane cell q to s = record { head_fits = s.head_fits; place_fits = mod-lt i laws.machine.some_samples; symbol_fits = s.symbol_fits }

-- a step's piece may stand at the next place
pub step-box : (m : Rules) → HasLaws m → (targets : List ℤ) (blocks level i lane : ℕ) (cell : Cell) (q : Piece) (to : ℕ) → FitTargets m blocks targets → IsTrue (is_level level) → i < blocks * m.decoder.samples
    → IsTrue (is_cell (grid m) level cell) → IsStep m targets level i lane cell q to → IsTrue (m.is_box (suc i % m.decoder.samples) q.bx)
step-box m laws targets blocks level i lane cell q to fit lev below is s =
    subst (λ (z : ℕ). IsTrue (m.is_box z q.bx)) (place-is m laws.machine i)
    (laws.boxed.pieces_fit s.head (i % m.decoder.samples) s.symbol (cell_box (grid m) level cell) (get_or targets i (pos 0)) q (step-move m laws targets level i lane cell q to s)
    (laws.boxed.cells_fit level (i % m.decoder.samples) cell lev (mod-lt i laws.machine.some_samples) is) (is-sample-at targets fit.range i (let c = fit.count in omega arith)) s.is_piece)

pub opens-below : (m : Rules) (targets : List ℤ) (blocks level most i lane : ℕ) (cell : Cell) (cost : ℕ) → Opens m targets blocks level most i lane cell cost
    → cost + rest m first_only targets blocks i lane (cell_box (grid m) level cell) < most
opens-below m targets blocks level most zero lane cell cost o = o.3
opens-below m targets blocks level most (suc i) lane cell cost o = o.9

-- the cells of open paths are cells of states
pub opens-cell : (m : Rules) → HasLaws m → (targets : List ℤ) (blocks level most i lane : ℕ) (cell : Cell) (cost : ℕ) → FitTargets m blocks targets → IsTrue (is_level level)
    → Opens m targets blocks level most i lane cell cost → IsTrue (is_cell (grid m) level cell)
opens-cell m laws targets blocks level most zero lane cell cost fit lev o =
    subst (λ (z : Cell). IsTrue (is_cell (grid m) level z)) (sym o.1) (cell-is m level start laws.machine lev laws.machine.start_fits)
opens-cell m laws targets blocks level most (suc i) lane cell cost fit lev o =
    let below : i < blocks * m.decoder.samples = omega (arith, o.7) in
    let c = opens-cell m laws targets blocks level most i o.0 o.1 o.2 fit lev o.4 in
    let b = step-box m laws targets blocks level i o.0 o.1 o.3 lane fit lev below c o.5 in
    met m level (suc i % m.decoder.samples) o.3.bx cell laws.boxed lev (mod-lt (suc i) laws.machine.some_samples) b o.6
