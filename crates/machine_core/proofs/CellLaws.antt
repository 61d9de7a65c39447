-- Cells hold their states, stand in the order of their states, and are few.
use Rattle.std.proofs.Common.{◌≡◌, ℕ, ◌<◌, arith, ap, sym, ◌∙◌, subst, inl, inr, true, false}
use Rattle.std.specs.Prelude.{ℤ, pos, ◌-◌, ◌^◌, ◌+ℤ◌, ◌*ℤ◌, ◌≤ℤ◌, int_le, ◌==◌, ◌||◌, IsTrue, Bool, if◌then◌else◌}
use Rattle.std.proofs.lemmas.Int.{ints}
use Rattle.std.proofs.lemmas.Bool.{and_parts, and_from, cases_Bool, eqb-true}
use Rattle.adpcm_nums.specs.Sample.{IsSample}
use Rattle.adpcm_nums.specs.Spans.{point_span, spans-are}
use Rattle.adpcm_nums.specs.declared.span.Span.{Span}
use Rattle.adpcm_nums.proofs.IntTests.{from-test, to-test}
use Rattle.adpcm_nums.proofs.NearestLaws.{floor-low, floor-high, floored_one}
use Rattle.adpcm_nums.proofs.FloorBounds.{floor_above, floor_below}
use Rattle.machine_core.specs.declared.state.State.{State}
use Rattle.machine_core.specs.declared.boxes.Bx.{Bx}
use Rattle.machine_core.specs.declared.boxes.Cell.{Cell}
use Rattle.machine_core.specs.Boxes.{InSpan, InBox, point_box, low_corner, high_corner}
use Rattle.machine_core.specs.Cells.{is_level, run_of, run_span, is_run, Grid, level_b, cell_of, cell_box, is_cell, IsBetween}
use Rattle.machine_core.specs.Rules.{Rules, IsMachine, grid}
use Rattle.machine_core.specs.Boxed.{IsBoxed}

-- the three levels
pub data Level : ℕ → Type 0 where
  exact : Level 0
  sixteens : Level 4
  large : Level 8

pub level-is : (level : ℕ) → IsTrue (is_level level) → Level level
level-is level h = elim (cases_Bool (level == 0)) [
  | inl first ↦ subst Level (sym (eqb-true level 0 first)) exact
  | inr some ↦ elim (cases_Bool (level == 4)) [
    | inl four ↦ subst Level (sym (eqb-true level 4 four)) sixteens
    | inr other ↦ subst Level (sym (eqb-true level 8 (sym (ap (λ b. b || (level == 4 || level == 8)) some ∙ ap (λ b. b || level == 8) other) ∙ h))) large
  ]
]

-- the level of the second numbers is one of them too
level-picked : (b : Bool) (level : ℕ) → Level level → Level (if b then level else 0)
level-picked true level is = is
level-picked false level is = exact

second : (g : Grid) (level : ℕ) → Level level → Level (level_b g level)
second g level is = level-picked g.cuts_b level is

some-width : (level : ℕ) → Level level → 0 < 2 ^ level
some-width level exact = omega arith
some-width level sixteens = omega arith
some-width level large = omega arith

-- runs stand in the order of their numbers
pub run-rises : (level : ℕ) (x y : ℤ) → Level level → x ≤ℤ y → run_of level x ≤ℤ run_of level y
run-rises level x y exact h = let a = floor-low x 1 (omega arith) in let b = floor-high y 1 (omega arith) in omega (arith, ints)
run-rises level x y sixteens h = let a = floor-low x 16 (omega arith) in let b = floor-high y 16 (omega arith) in omega (arith, ints)
run-rises level x y large h = let a = floor-low x 256 (omega arith) in let b = floor-high y 256 (omega arith) in omega (arith, ints)

-- a number lies in its run
run-holds : (level : ℕ) (x : ℤ) → Level level → InSpan x (run_span level (run_of level x))
run-holds level x is = record { above = floor-low x (2 ^ level) (some-width level is); below = floor-high x (2 ^ level) (some-width level is) }

-- at level 0 it is alone in it
pub run-exact : (x : ℤ) → run_span 0 (run_of 0 x) ≡ point_span x
run-exact x = let one = floored_one x in spans-are (run_span 0 (run_of 0 x)) (point_span x) (omega (arith, ints)) (omega (arith, ints))

second-exact : (b : Bool) (x : ℤ) → run_span (if b then 0 else 0) (run_of (if b then 0 else 0) x) ≡ point_span x
second-exact true x = run-exact x
second-exact false x = run-exact x

pub holds : (g : Grid) (level : ℕ) (at : State) → IsTrue (is_level level) → InBox at (cell_box g level (cell_of g level at))
holds g level at h = let is = level-is level h in record {
  in_a = run-holds level at.a is;
  in_b = run-holds (level_b g level) at.b (second g level is);
}

pub exact-box : (g : Grid) (at : State) → cell_box g 0 (cell_of g 0 at) ≡ point_box at
exact-box g at =
    let mk : Span → Span → Bx = λ a b. record { a = a; b = b } in
    ap (λ a. mk a (run_span (level_b g 0) (run_of (level_b g 0) at.b))) (run-exact at.a) ∙ ap (mk (point_span at.a)) (second-exact g.cuts_b at.b)

pub between : (g : Grid) (level : ℕ) (bx : Bx) (at : State) → IsTrue (is_level level) → InBox at bx
    → IsBetween (cell_of g level (low_corner bx)) (cell_of g level (high_corner bx)) (cell_of g level at)
between g level bx at h inside = let is = level-is level h in let next = second g level is in record {
  a_low = run-rises level bx.a.lo at.a is inside.in_a.above;
  a_high = run-rises level at.a bx.a.hi is inside.in_a.below;
  b_low = run-rises (level_b g level) bx.b.lo at.b next inside.in_b.above;
  b_high = run-rises (level_b g level) at.b bx.b.hi next inside.in_b.below;
}

-- a run between two that hold numbers of the span is a run of the span
run-fits : (level : ℕ) (s : Span) (low high run : ℤ) → run_of level s.lo ≤ℤ low → low ≤ℤ run → run ≤ℤ high → high ≤ℤ run_of level s.hi → IsTrue (is_run level s run)
run-fits level s low high run a b c d =
    and_from (int_le (run_of level s.lo) run) (int_le run (run_of level s.hi)) (to-test (run_of level s.lo) run (omega (arith, ints))) (to-test run (run_of level s.hi) (omega (arith, ints)))

run-within : (level : ℕ) (lo hi n m run : ℤ) → Level level → lo ≡ pos 256 *ℤ n → hi +ℤ pos 1 ≡ pos 256 *ℤ m → run_of level lo ≤ℤ run → run ≤ℤ run_of level hi
    → (lo ≤ℤ (pos (2 ^ level) *ℤ run)) × ((pos (2 ^ level) *ℤ run +ℤ pos (2 ^ level - 1)) ≤ℤ hi)
run-within level lo hi n m run exact a b l h = let f = floored_one lo in let g = floored_one hi in (omega (arith, ints), omega (arith, ints))
run-within level lo hi n m run sixteens a b l h = let f = floor-high lo 16 (omega arith) in let g = floor-low hi 16 (omega arith) in (omega (arith, ints), omega (arith, ints))
run-within level lo hi n m run large a b l h = let f = floor-high lo 256 (omega arith) in let g = floor-low hi 256 (omega arith) in (omega (arith, ints), omega (arith, ints))

pub cell-is : (r : Rules) (level : ℕ) (at : State) → IsMachine r → IsTrue (is_level level) → IsTrue (r.decoder.is_state at)
    → IsTrue (is_cell (grid r) level (cell_of (grid r) level at))
cell-is r level at laws h is_state =
    let is = level-is level h in
    let next = second (grid r) level is in
    let inside = laws.whole_holds at is_state in
    let x = run_of level at.a in
    let y = run_of (level_b (grid r) level) at.b in
    and_from (is_run level r.whole.a x) (is_run (level_b (grid r) level) r.whole.b y)
    (run-fits level r.whole.a x x x (run-rises level r.whole.a.lo at.a is inside.in_a.above) (omega (arith, ints)) (omega (arith, ints)) (run-rises level at.a r.whole.a.hi is inside.in_a.below))
    (run-fits (level_b (grid r) level) r.whole.b y y y (run-rises (level_b (grid r) level) r.whole.b.lo at.b next inside.in_b.above) (omega (arith, ints)) (omega (arith, ints))
    (run-rises (level_b (grid r) level) at.b r.whole.b.hi next inside.in_b.below))

pub met : (r : Rules) (level p : ℕ) (bx : Bx) (cell : Cell) → IsBoxed r → IsTrue (is_level level) → p < r.decoder.samples → IsTrue (r.is_box p bx)
    → IsBetween (cell_of (grid r) level (low_corner bx)) (cell_of (grid r) level (high_corner bx)) cell → IsTrue (is_cell (grid r) level cell)
met r level p bx cell laws h within is_box stands =
    let is = level-is level h in
    let k = level_b (grid r) level in
    let next = second (grid r) level is in
    let corners = laws.boxes_inside p bx within is_box in
    and_from (is_run level r.whole.a cell.a) (is_run k r.whole.b cell.b)
    (run-fits level r.whole.a (run_of level bx.a.lo) (run_of level bx.a.hi) cell.a (run-rises level r.whole.a.lo bx.a.lo is corners.0.in_a.above) stands.a_low stands.a_high
    (run-rises level bx.a.hi r.whole.a.hi is corners.1.in_a.below))
    (run-fits k r.whole.b (run_of k bx.b.lo) (run_of k bx.b.hi) cell.b (run-rises k r.whole.b.lo bx.b.lo next corners.0.in_b.above) stands.b_low stands.b_high
    (run-rises k bx.b.hi r.whole.b.hi next corners.1.in_b.below))

-- where a span begins and ends with runs of 256 numbers, no run of it goes past its ends
pub run-inside : (level : ℕ) (s : Span) (n m run : ℤ) → Level level → s.lo ≡ pos 256 *ℤ n → s.hi +ℤ pos 1 ≡ pos 256 *ℤ m → IsTrue (is_run level s run)
    → (s.lo ≤ℤ (run_span level run).lo) × ((run_span level run).hi ≤ℤ s.hi)
run-inside level s n m run is a b fits =
    let parts = and_parts (int_le (run_of level s.lo) run) (int_le run (run_of level s.hi)) fits in
    run-within level s.lo s.hi n m run is a b (from-test (run_of level s.lo) run parts.0) (from-test run (run_of level s.hi) parts.1)

-- the runs of numbers of 16 bits have numbers of 16 bits
run-small : (level : ℕ) (s : Span) (run : ℤ) → IsSample s.lo → IsSample s.hi → IsTrue (is_run level s run) → IsSample run
run-small level s run lo hi is =
    let parts = and_parts (int_le (run_of level s.lo) run) (int_le run (run_of level s.hi)) is in
    let above = from-test (run_of level s.lo) run parts.0 in
    let below = from-test run (run_of level s.hi) parts.1 in
    let low = floor_above s.lo (2 ^ level) 32767 lo.low in
    let high = floor_below s.hi (2 ^ level) 32767 hi.high in
    record { low = omega (arith, ints, above, low); high = omega (arith, ints, below, high) }

pub cell-small : (r : Rules) (level : ℕ) (cell : Cell) → IsBoxed r → IsTrue (is_cell (grid r) level cell) → IsSample cell.a × IsSample cell.b
cell-small r level cell laws is =
    let k = level_b (grid r) level in
    let parts = and_parts (is_run level r.whole.a cell.a) (is_run k r.whole.b cell.b) is in
    let small = laws.whole_small in
    (run-small level r.whole.a cell.a small.0 small.1 parts.0, run-small k r.whole.b cell.b small.2 small.3 parts.1)
