-- The decoder of IMA ADPCM keeps the laws of boxes and cells.
use Rattle.std.proofs.Common.{◌≡◌, ℕ, zero, suc, ◌-◌, ◌^◌, ◌<◌, ◌≤◌, arith, refl, ap, sym, ◌∙◌, subst, inl, inr, ◌⊎◌, true, false, min}
use Rattle.std.specs.Prelude.{ℤ, pos, negsuc, ◌+ℤ◌, ◌*ℤ◌, ◌≤ℤ◌, int_le, ◌==◌, ◌&&◌, ◌||◌, IsTrue, unsigned_abs, Bool, List}
use Rattle.std.specs.List.{Contains}
use Rattle.std.proofs.lemmas.Int.{ints}
use Rattle.std.proofs.lemmas.Bool.{and_parts, and_from, cond-false}
use Rattle.adpcm_nums.specs.Sample.{IsSample}
use Rattle.adpcm_nums.proofs.IntTests.{from-test, to-test}
use Rattle.adpcm_nums.proofs.NearestLaws.{floored_one}
use Rattle.machine_core.specs.declared.boxes.Bx.{Bx}
use Rattle.machine_core.specs.declared.boxes.Cell.{Cell}
use Rattle.machine_core.specs.declared.pieces.Piece.{Piece}
use Rattle.machine_core.specs.Boxes.{InBox, low_corner, high_corner}
use Rattle.machine_core.specs.Cells.{is_level, run_of, run_span, is_run, is_cell, cell_of, cell_box, IsBetween}
use Rattle.machine_core.specs.Rules.{grid}
use Rattle.machine_core.specs.Boxed.{IsBoxed, place_after}
use Rattle.machine_core.proofs.CellLaws.{level-is, run-inside}
use Rattle.machine_core.proofs.PieceLaws.{all-tried}
use Rattle.machine_core.proofs.Places.{not-first}
use Rattle.ima_machine.specs.Ima.{ima, is_ima_state, is_output, is_index, symbols_at}
use Rattle.ima_machine.specs.Boxes.{is_ima_box, is_output_span, is_index_span, all_states}
use Rattle.ima_machine.specs.Spelling.{symbol_of}
use Rattle.ima_machine.specs.Image.{greatest, ima_image, reach_of, first_symbol, last_symbol}
use Rattle.ima_machine.specs.Floors.{ima_floor}
use Rattle.ima_machine.specs.ImaRules.{ima_rules}
use Rattle.ima_machine.specs.Laws.States.{IsIndex, output_bounds, index_bounds}
use Rattle.ima_machine.specs.Laws.Chains.{floor-first}
use Rattle.ima_machine.specs.Laws.Images.{IsFit, image-covers, image-point, image-fits, image-later, first-cost, one-index}
use Rattle.ima_machine.specs.Laws.Slacks.{own-small, far-costs}

-- the ends of a box
pub record Ends (bx : Bx) : Type 0 where
  pub a_lo : IsTrue (is_output bx.a.lo)
  pub a_hi : IsTrue (is_output bx.a.hi)
  pub b_lo : IsTrue (is_index bx.b.lo)
  pub b_hi : IsTrue (is_index bx.b.hi)

pub ends-of : (p : ℕ) (bx : Bx) → IsTrue (is_ima_box p bx) → Ends bx
ends-of p bx is =
    let parts = and_parts (is_output_span bx.a) (is_index_span bx.b && (p == 0 || int_le bx.b.hi bx.b.lo)) is in
    let outputs = and_parts (is_output bx.a.lo) (is_output bx.a.hi) parts.0 in
    let indices = and_parts (is_index bx.b.lo) (is_index bx.b.hi) (and_parts (is_index_span bx.b) (p == 0 || int_le bx.b.hi bx.b.lo) parts.1).0 in
    record { a_lo = outputs.0; a_hi = outputs.1; b_lo = indices.0; b_hi = indices.1 }

pub low-state : (p : ℕ) (bx : Bx) → IsTrue (is_ima_box p bx) → IsTrue (is_ima_state (low_corner bx))
low-state p bx is = let ends = ends-of p bx is in and_from (is_output bx.a.lo) (is_index bx.b.lo) ends.a_lo ends.b_lo

pub greatest-state : (p : ℕ) (bx : Bx) → IsTrue (is_ima_box p bx) → IsTrue (is_ima_state (greatest bx))
greatest-state p bx is = let ends = ends-of p bx is in and_from (is_output bx.a.hi) (is_index bx.b.lo) ends.a_hi ends.b_lo

corners : (p : ℕ) (bx : Bx) → IsTrue (is_ima_box p bx) → InBox (low_corner bx) all_states × InBox (high_corner bx) all_states
corners p bx is =
    let ends = ends-of p bx is in
    let a = output_bounds bx.a.lo ends.a_lo in
    let b = output_bounds bx.a.hi ends.a_hi in
    let c = index_bounds bx.b.lo ends.b_lo in
    let d = index_bounds bx.b.hi ends.b_hi in (
      record { in_a = record { above = a.low; below = a.high }; in_b = record { above = c.low; below = c.high } },
      record { in_a = record { above = b.low; below = b.high }; in_b = record { above = d.low; below = d.high } },
    )

-- a box of one index may stand at every place
or-true : (x y : Bool) → y ≡ true → (x || y) ≡ true
or-true true y e = refl
or-true false y e = e

output-is : (y : ℤ) → IsSample y → IsTrue (is_output y)
output-is y is = and_from _ _ (to-test (negsuc 32767) y is.low) (to-test y (pos 32767) is.high)

index-is : (i : ℤ) → IsIndex i → IsTrue (is_index i)
index-is i is = and_from _ _ (to-test (pos 0) i is.low) (to-test i (pos 88) is.high)

box-fits : (p : ℕ) (bx : Bx) → IsSample bx.a.lo → IsSample bx.a.hi → IsIndex bx.b.lo → bx.b.hi ≡ bx.b.lo → IsTrue (is_ima_box p bx)
box-fits p bx lo hi index one =
    let high : IsTrue (is_index bx.b.hi) = subst (λ (z : ℤ). IsTrue (is_index z)) (sym one) (index-is bx.b.lo index) in
    and_from (is_output_span bx.a) (is_index_span bx.b && (p == 0 || int_le bx.b.hi bx.b.lo))
    (and_from (is_output bx.a.lo) (is_output bx.a.hi) (output-is bx.a.lo lo) (output-is bx.a.hi hi))
    (and_from (is_index_span bx.b) (p == 0 || int_le bx.b.hi bx.b.lo) (and_from (is_index bx.b.lo) (is_index bx.b.hi) (index-is bx.b.lo index) high)
    (or-true (p == 0) (int_le bx.b.hi bx.b.lo) (to-test bx.b.hi bx.b.lo (omega (arith, ints)))))

piece-of : (head p symbol : ℕ) (bx : Bx) (target : ℤ) (q : Piece) → head < 89 → symbol < symbols_at p → IsTrue (is_ima_box p bx) → IsSample target → Contains (ima_image head p symbol bx target) q → IsFit q
piece-of head p symbol bx target q h s is sample there = image-fits head p symbol bx target q h s (low-state p bx is) (greatest-state p bx is) sample there

fit-box : (p : ℕ) (q : Piece) → IsFit q → IsTrue (is_ima_box p q.bx)
fit-box p q fit = box-fits p q.bx fit.lo fit.hi fit.index fit.one

image-alike : (g h p symbol : ℕ) (bx : Bx) (target : ℤ) → 0 < p → ima_image g p symbol bx target ≡ ima_image h p symbol bx target
image-alike g h p symbol bx target later = image-later g p symbol bx target later ∙ sym (image-later h p symbol bx target later)

-- the symbols that may cost at most a slack
symbols-span : (p : ℕ) (target : ℤ) (slack : ℕ) → IsSample target → (first_symbol p target slack ≤ last_symbol p target slack) × (last_symbol p target slack < symbols_at p)
symbols-span zero target slack sample = let own = own-small target sample in (omega arith, omega arith)
symbols-span (suc p) target slack sample =
    let later : (suc p == 0) ≡ false = not-first (suc p) (omega arith) in
    let first : first_symbol (suc p) target slack ≡ 0 = cond-false _ _ _ later in
    let last : last_symbol (suc p) target slack ≡ 15 = cond-false _ _ _ later in
    let all : symbols_at (suc p) ≡ 16 = cond-false _ _ _ later in
    (omega (arith, first), omega (arith, last, all))

symbols-all : (head p symbol : ℕ) (bx : Bx) (target : ℤ) (slack : ℕ) (q : Piece) → symbol < symbols_at p → IsSample target
    → (symbol < first_symbol p target slack) ⊎ (last_symbol p target slack < symbol) → Contains (ima_image head p symbol bx target) q → slack < q.cost
symbols-all head zero symbol bx target slack q fits sample outside there =
    let far = far-costs symbol target slack sample fits outside in omega (arith, far, first-cost head symbol bx target q there)
symbols-all head (suc p) symbol bx target slack q fits sample outside there =
    let later : (suc p == 0) ≡ false = not-first (suc p) (omega arith) in
    let first : first_symbol (suc p) target slack ≡ 0 = cond-false _ _ _ later in
    let last : last_symbol (suc p) target slack ≡ 15 = cond-false _ _ _ later in
    let all : symbols_at (suc p) ≡ 16 = cond-false _ _ _ later in
    elim outside [
      | inl low ↦ absurd (omega (arith, first, low))
      | inr high ↦ absurd (omega (arith, last, high, all, fits))
    ]

-- the runs of outputs and of indices
run-outputs : (level : ℕ) (run : ℤ) → IsTrue (is_level level) → IsTrue (is_run level all_states.a run) → IsSample (run_span level run).lo × IsSample (run_span level run).hi
run-outputs level run h fits =
    let ends = run-inside level all_states.a (negsuc 127) (pos 128) run (level-is level h) refl refl fits in
    let low = ends.0 in let high = ends.1 in let order = (run_span level run).order in
    (record { low = low; high = omega (arith, ints, low, high, order) }, record { low = omega (arith, ints, low, high, order); high = high })

run-index : (run : ℤ) → IsTrue (is_run 0 all_states.b run) → IsIndex (run_span 0 run).lo
run-index run fits =
    let parts = and_parts (int_le (run_of 0 (pos 0)) run) (int_le run (run_of 0 (pos 88))) fits in
    let low = from-test (run_of 0 (pos 0)) run parts.0 in
    let high = from-test run (run_of 0 (pos 88)) parts.1 in
    record { low = omega (arith, ints, low); high = omega (arith, ints, high) }

cell-fits : (samples level p : ℕ) (cell : Cell) → IsTrue (is_level level) → IsTrue (is_cell (grid (ima_rules samples)) level cell) → IsTrue (is_ima_box p (cell_box (grid (ima_rules samples)) level cell))
cell-fits samples level p cell h is =
    let parts = and_parts (is_run level all_states.a cell.a) (is_run 0 all_states.b cell.b) is in
    let outputs = run-outputs level cell.a h parts.0 in
    box-fits p (cell_box (grid (ima_rules samples)) level cell) outputs.0 outputs.1 (run-index cell.b parts.1) (omega (arith, ints))

-- a box's floor is that of the cells that it meets
met : (samples head p level : ℕ) (bx : Bx) (cell : Cell) (targets : List ℤ) → IsTrue (is_ima_box p bx)
    → IsBetween (cell_of (grid (ima_rules samples)) level (low_corner bx)) (cell_of (grid (ima_rules samples)) level (high_corner bx)) cell
    → ima_floor samples head p (unsigned_abs bx.b.lo) targets ≡ ima_floor samples head p (unsigned_abs (run_span 0 cell.b).lo) targets
met samples head zero level bx cell targets is stands = floor-first samples head (unsigned_abs bx.b.lo) targets ∙ sym (floor-first samples head (unsigned_abs (run_span 0 cell.b).lo) targets)
met samples head (suc p) level bx cell targets is stands =
    let one = one-index (suc p) bx (omega arith) is in
    let low = stands.b_low in let high = stands.b_high in
    let first = floored_one bx.b.lo in let last = floored_one bx.b.hi in
    let same : bx.b.lo ≡ (run_span 0 cell.b).lo = omega (arith, ints) in
    ap (λ z. ima_floor samples head (suc p) (unsigned_abs z) targets) same

a-sample : (x : ℤ) → negsuc 32767 ≤ℤ x → x ≤ℤ pos 32767 → IsSample x
a-sample x a b = record { low = a; high = b }

-- all laws of boxes and cells
pub ima_is_boxed : (samples : ℕ) → IsBoxed (ima_rules samples)
ima_is_boxed samples = record {
  covers = λ head p symbol bx target at move is_box sample is inside. image-covers samples head p symbol bx target at is_box inside;
  single = λ head p symbol target at move sample is. image-point samples head p symbol target at;
  pieces_fit = λ head p symbol bx target q move is_box sample there.
      fit-box (place_after (ima samples) p) q (piece-of head p symbol bx target q move.head_fits move.symbol_fits is_box sample there);
  pieces_small = λ head p symbol bx target q move is_box sample there. (piece-of head p symbol bx target q move.head_fits move.symbol_fits is_box sample there).small;
  images_alike = λ g h p symbol bx target g_fits h_fits later within same. image-alike g h p symbol bx target later;
  spans = λ p target slack within sample. symbols-span p target slack sample;
  spanned = λ head p symbol bx target slack q move is_box sample outside there. symbols-all head p symbol bx target slack q move.symbol_fits sample outside there;
  boxes_inside = λ p bx within is_box. corners p bx is_box;
  whole_small = (a-sample (negsuc 32767) (omega (arith, ints)) (omega (arith, ints)), a-sample (pos 32767) (omega (arith, ints)) (omega (arith, ints)), a-sample (pos 0) (omega (arith, ints)) (omega (arith, ints)), a-sample (pos 88) (omega (arith, ints)) (omega (arith, ints)));
  cells_fit = λ level p cell is_level within is. cell-fits samples level p cell is_level is;
  floors_met = λ head p level bx cell targets is_level head_fits within is_box stands. met samples head p level bx cell targets is_box stands;
}
