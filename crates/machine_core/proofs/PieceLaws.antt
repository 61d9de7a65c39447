-- Pieces of outputs: what they cover, and the piece of one output.
use Rattle.std.proofs.Common.{◌≡◌, ℕ, zero, suc, ◌^◌, ◌<◌, ◌≤◌, arith, ap, ◌∙◌, ◌⊎◌, inl, inr, List, [], ◌∷◌}
use Rattle.std.specs.Prelude.{ℤ, pos, ◌-ℤ◌, ◌*ℤ◌, unsigned_abs}
use Rattle.std.specs.List.{Contains}
use Rattle.std.proofs.lemmas.Int.{ints}
use Rattle.adpcm_nums.specs.Nums.{floor_of, square_of}
use Rattle.adpcm_nums.specs.Sample.{IsSample}
use Rattle.adpcm_nums.specs.Nearest.{within_of, distance_sq_of}
use Rattle.adpcm_nums.specs.Spans.{point_span}
use Rattle.adpcm_nums.specs.declared.span.Span.{Span}
use Rattle.adpcm_nums.proofs.SpanLaws.{distance_sq-least, distance_sq-small}
use Rattle.machine_core.specs.declared.state.State.{State}
use Rattle.machine_core.specs.declared.pieces.Piece.{Piece}
use Rattle.machine_core.specs.Boxes.{InSpan, IsCovered}
use Rattle.machine_core.specs.Images.{output_piece}

-- the one piece of a list of one
pub one-piece : (x q : Piece) → Contains (x ∷ []) q → x ≡ q
one-piece x q (zero, h, e) = e
one-piece x q (suc k, h, e) = absurd (omega arith)

-- a piece that holds a state is no dearer than the state
pub piece-covers : (pieces : List Piece) (scale : ℤ) (outputs last : Span) (target : ℤ) (at : State) → (scale ≡ pos 1) ⊎ (scale ≡ pos 2)
    → InSpan at.a outputs → InSpan at.b last → Contains pieces (output_piece scale outputs last target) → IsCovered pieces at (square_of (scale *ℤ at.a -ℤ target))
piece-covers pieces scale outputs last target at s a b there = record {
  piece = output_piece scale outputs last target;
  there = there;
  holds = record { in_a = a; in_b = b };
  cheap = distance_sq-least outputs.lo outputs.hi scale target at.a s a.above a.below;
}

within-point : (y x : ℤ) → within_of y y x ≡ y
within-point y x = grind (arith, ints)

-- one output costs what it costs
pub cost-point : (scale y target : ℤ) → distance_sq_of y y scale target ≡ square_of (scale *ℤ y -ℤ target)
cost-point scale y target = ap (λ z. square_of (scale *ℤ z -ℤ target)) (within-point y (floor_of target (unsigned_abs scale)))

-- the piece of one output
pub piece-point : (scale y : ℤ) (outputs last : Span) (target : ℤ) → outputs ≡ point_span y
    → output_piece scale outputs last target ≡ record { bx = record { a = point_span y; b = last }; cost = square_of (scale *ℤ y -ℤ target) }
piece-point scale y outputs last target e =
    let mk : ℕ → Piece = λ k. record { bx = record { a = point_span y; b = last }; cost = k } in
    ap (λ s. output_piece scale s last target) e ∙ ap mk (cost-point scale y target)

pub piece-small : (scale : ℤ) (outputs last : Span) (target : ℤ) → (scale ≡ pos 1) ⊎ (scale ≡ pos 2) → IsSample outputs.lo → IsSample target
    → (output_piece scale outputs last target).cost ≤ 2 ^ 34
piece-small scale outputs last target s lo sample = distance_sq-small outputs.lo outputs.hi scale target s outputs.order lo sample

-- where all symbols may cost little, none is left out
pub all-tried : {A : Type 0} (symbol last : ℕ) → symbol < suc last → (symbol < 0) ⊎ (last < symbol) → A
all-tried symbol last within (inl none) = absurd (omega arith)
all-tried symbol last within (inr over) = absurd (omega arith)
