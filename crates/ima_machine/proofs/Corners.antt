-- The image of a box, from what comes of its least and its greatest output.
use Rattle.std.proofs.Common.{◌≡◌, ℕ, arith, ap, sym, ◌∙◌, refl, List, [], ◌∷◌}
use Rattle.std.specs.Prelude.{ℤ, pos, ◌+ℤ◌, ◌≤ℤ◌, unsigned_abs}
use Rattle.std.proofs.lemmas.Int.{ints}
use Rattle.adpcm_nums.specs.Nums.{clamp16_of}
use Rattle.adpcm_nums.specs.Spans.{point_span, span_to, spans-are}
use Rattle.adpcm_nums.specs.declared.span.Span.{Span}
use Rattle.machine_core.specs.declared.state.State.{State}
use Rattle.machine_core.specs.declared.boxes.Bx.{Bx}
use Rattle.machine_core.specs.declared.pieces.Piece.{Piece}
use Rattle.machine_core.specs.Boxes.{low_corner}
use Rattle.machine_core.specs.Images.{output_piece}
use Rattle.ima_machine.specs.Steps.{difference_of}
use Rattle.ima_machine.specs.Ima.{later_state}
use Rattle.ima_machine.specs.Image.{greatest, later_piece}
use Rattle.ima_machine.specs.Laws.Images.{later-rises, outputs-end}

pub output-is : (code : ℕ) (from : State) (y : ℤ) → y ≡ clamp16_of (from.a +ℤ difference_of (unsigned_abs from.b) code) → y ≡ (later_state code from).a
unfolding later_state
output-is code from y e = e

pub in-order : (code : ℕ) (bx : Bx) (low : State) (high : ℤ) → low ≡ later_state code (low_corner bx) → high ≡ (later_state code (greatest bx)).a → low.a ≤ℤ high
in-order code bx low high a b =
    let rise = later-rises code (low_corner bx) (greatest bx) bx.a.order refl in
    let first = ap (λ (s : State). s.a) a in omega (arith, ints, rise, first, b)

pub image-is : (code : ℕ) (bx : Bx) (target t : ℤ) (low : State) (high : ℤ) (outputs index : Span) (piece : Piece) (pieces : List Piece) → pieces ≡ piece ∷ [] → piece ≡ output_piece (pos 1) outputs index t
    → low ≡ later_state code (low_corner bx) → high ≡ (later_state code (greatest bx)).a → outputs.lo ≡ low.a → outputs.hi ≡ high → index ≡ point_span low.b → t ≡ target
    → pieces ≡ later_piece code bx target ∷ []
image-is code bx target t low high outputs index piece pieces one is a b lo hi i e =
    let s = later_state code (low_corner bx) in
    let z = later_state code (greatest bx) in
    let same : outputs ≡ span_to s.a z.a = spans-are outputs (span_to s.a z.a) (lo ∙ ap (λ (x : State). x.a) a) (hi ∙ b ∙ sym (outputs-end code bx)) in
    let next : index ≡ point_span s.b = i ∙ ap (λ (x : State). point_span x.b) a in
    one ∙ ap (λ (p : Piece). p ∷ []) (is ∙ ap (λ x. output_piece (pos 1) x index t) same ∙ ap (λ x. output_piece (pos 1) (span_to s.a z.a) x t) next ∙ ap (output_piece (pos 1) (span_to s.a z.a) (point_span s.b)) e)
