-- What a look is, cell by cell.
use Rattle.std.proofs.Common.{◌≡◌, ℕ, ◌<◌, ◌∙◌, arith, ◌⊎◌, inl, inr, Option}
use Rattle.std.specs.Prelude.{ℤ, pos, ◌+ℤ◌, ◌≤ℤ◌}
use Rattle.std.proofs.lemmas.Int.{ints}
use Rattle.adpcm_nums.specs.LeastValue.{least}
use Rattle.adpcm_nums.specs.Spans.{le-self}
use Rattle.adpcm_nums.proofs.LeastValueLaws.{least-reached}
use Rattle.machine_core.specs.declared.boxes.Bx.{Bx}
use Rattle.machine_core.specs.declared.boxes.Cell.{Cell}
use Rattle.machine_core.specs.Boxes.{InBox, low_corner}
use Rattle.machine_core.specs.Cells.{IsBetween}
use Rattle.machine_core.specs.Floors.{top}
use Rattle.box_layers.specs.Looking.{or_else, span_count, cell_near, least_listed}

pub low-inside : (bx : Bx) → InBox (low_corner bx) bx
low-inside bx = record { in_a = record { above = le-self bx.a.lo; below = bx.a.order }; in_b = record { above = le-self bx.b.lo; below = bx.b.order } }

from-low : (low : ℤ) (x : ℕ) → low ≤ℤ (low +ℤ pos x)
from-low low x = omega (arith, ints)

to-high : (low high : ℤ) (x : ℕ) → low ≤ℤ high → x < span_count low high → (low +ℤ pos x) ≤ℤ high
to-high low high x order h = grind (arith, ints)

near-between : (low high : Cell) (x y : ℕ) → low.a ≤ℤ high.a → low.b ≤ℤ high.b → x < span_count low.a high.a → y < span_count low.b high.b → IsBetween low high (cell_near low x y)
near-between low high x y a b h k = record { a_low = from-low low.a x; a_high = to-high low.a high.a x a h; b_low = from-low low.b y; b_high = to-high low.b high.b y b k }

-- the look is what some cell is worth, or no number of the code is above it
pub look-reached : (low high : Cell) (listed : Cell → Option ℕ) (unlisted : ℕ) → low.a ≤ℤ high.a → low.b ≤ℤ high.b
    → (least_listed low high listed unlisted ≡ top) ⊎ ((cell : Cell) × IsBetween low high cell × (least_listed low high listed unlisted ≡ or_else (listed cell) unlisted))
look-reached low high listed unlisted a b =
    let row : ℕ → ℕ = λ x. least (span_count low.b high.b) (λ y. or_else (listed (cell_near low x y)) unlisted) top in
    let goal : Type 0 = (least_listed low high listed unlisted ≡ top) ⊎ ((cell : Cell) × IsBetween low high cell × (least_listed low high listed unlisted ≡ or_else (listed cell) unlisted)) in
    elim (least-reached (span_count low.a high.a) row top) as (λ _. goal) [
      | inl all ↦ inl all
      | inr x ↦ elim (least-reached (span_count low.b high.b) (λ y. or_else (listed (cell_near low x.0 y)) unlisted) top) as (λ _. goal) [
        | inl all ↦ inl (x.2 ∙ all)
        | inr y ↦ inr (cell_near low x.0 y.0, near-between low high x.0 y.0 a b x.1 y.1, x.2 ∙ y.2)
      ]
    ]
