-- The image of a box, from what comes of two corners.
use Rattle.std.proofs.Common.{◌≡◌, ℕ, arith, ap, sym, ◌∙◌, List, [], ◌∷◌}
use Rattle.std.specs.Prelude.{ℤ, pos, ◌≤ℤ◌}
use Rattle.std.proofs.lemmas.Int.{ints}
use Rattle.adpcm_nums.specs.Spans.{spans-are}
use Rattle.adpcm_nums.specs.declared.span.Span.{Span}
use Rattle.machine_core.specs.declared.boxes.Bx.{Bx}
use Rattle.machine_core.specs.declared.pieces.Piece.{Piece}
use Rattle.machine_core.specs.Images.{output_piece}
use Rattle.spu_machine.specs.Image.{spu_image}
use Rattle.spu_machine.specs.Laws.Rises.{output-rises}
use Rattle.spu_machine.specs.Laws.Boxed.{least_output, greatest_output, outputs_of, outputs-end}

pub in-order : (head code : ℕ) (bx : Bx) (lo hi : ℤ) → lo ≡ least_output head code bx → hi ≡ greatest_output head code bx → lo ≤ℤ hi
in-order head code bx lo hi a b =
    let rise = output-rises head code bx.a.lo bx.a.hi bx.b.hi bx.b.lo bx.a.order bx.b.order in omega (arith, ints, rise, a, b)

pub image-is : (head code : ℕ) (bx : Bx) (target t : ℤ) (outputs : Span) (piece : Piece) (pieces : List Piece) → pieces ≡ piece ∷ [] → piece ≡ output_piece (pos 1) outputs bx.a t
    → outputs.lo ≡ least_output head code bx → outputs.hi ≡ greatest_output head code bx → t ≡ target → pieces ≡ spu_image head code bx target
unfolding spu_image
image-is head code bx target t outputs piece pieces one is a b e =
    let same : outputs ≡ outputs_of head code bx = spans-are outputs (outputs_of head code bx) a (b ∙ sym (outputs-end head code bx)) in
    one ∙ ap (λ p. p ∷ []) (is ∙ ap (λ s. output_piece (pos 1) s bx.a t) same ∙ ap (output_piece (pos 1) (outputs_of head code bx) bx.a) e)
