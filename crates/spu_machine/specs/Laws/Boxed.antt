-- The decoder of SPU-ADPCM keeps the laws of boxes and cells.
use Rattle.std.proofs.Common.{◌≡◌, ℕ, arith, refl, inl, ap, sym, ◌∙◌, subst, List, [], ◌∷◌}
use Rattle.std.specs.Prelude.{ℤ, pos, negsuc, ◌≤ℤ◌}
use Rattle.std.specs.List.{Contains}
use Rattle.std.proofs.lemmas.Int.{ints}
use Rattle.adpcm_nums.specs.Sample.{IsSample}
use Rattle.adpcm_nums.specs.Spans.{point_span, span_to, spans-are, le-self}
use Rattle.adpcm_nums.specs.declared.span.Span.{Span}
use Rattle.adpcm_nums.proofs.ClampLaws.{greater-is}
use Rattle.machine_core.specs.declared.state.State.{State}
use Rattle.machine_core.specs.declared.boxes.Bx.{Bx}
use Rattle.machine_core.specs.declared.pieces.Piece.{Piece}
use Rattle.machine_core.specs.Boxes.{InSpan, InBox, IsCovered, point_box}
use Rattle.machine_core.specs.Images.{output_piece}
use Rattle.machine_core.specs.Decoder.{cost_of}
use Rattle.machine_core.specs.Boxed.{IsBoxed}
use Rattle.machine_core.proofs.OutputBoxes.{IsOutputs, corners-inside, piece-is-box, cell-is-box}
use Rattle.machine_core.proofs.PieceLaws.{one-piece, piece-covers, piece-point, piece-small, all-tried}
use Rattle.spu_machine.specs.Spu.{spu, spu_step, output_of, lane_of}
use Rattle.spu_machine.specs.Boxes.{outputs}
use Rattle.spu_machine.specs.Image.{spu_image}
use Rattle.spu_machine.specs.SpuRules.{spu_rules}
use Rattle.spu_machine.specs.Laws.Ranges.{output-fits}
use Rattle.spu_machine.specs.Laws.Lanes.{same-output}
use Rattle.spu_machine.specs.Laws.Rises.{output-rises}

-- what comes of two corners of a box
abbrev pub least_output : ℕ → ℕ → Bx → ℤ
least_output head code bx = output_of head code bx.a.lo bx.b.hi

abbrev pub greatest_output : ℕ → ℕ → Bx → ℤ
greatest_output head code bx = output_of head code bx.a.hi bx.b.lo

-- the span between them
abbrev pub outputs_of : ℕ → ℕ → Bx → Span
outputs_of head code bx = span_to (least_output head code bx) (greatest_output head code bx)

-- ends there, since they stand in order
pub outputs-end : (head code : ℕ) (bx : Bx) → (outputs_of head code bx).hi ≡ greatest_output head code bx
outputs-end head code bx = greater-is _ _ (output-rises head code bx.a.lo bx.a.hi bx.b.hi bx.b.lo bx.a.order bx.b.order)

output-inside : (head code : ℕ) (bx : Bx) (at : State) → InBox at bx → InSpan (output_of head code at.a at.b) (outputs_of head code bx)
output-inside head code bx at inside = record {
  above = output-rises head code bx.a.lo at.a bx.b.hi at.b inside.in_a.above inside.in_b.below;
  below = subst (λ (z : ℤ). output_of head code at.a at.b ≤ℤ z) (sym (outputs-end head code bx)) (output-rises head code at.a bx.a.hi at.b bx.b.lo inside.in_a.below inside.in_b.above);
}

image-covers : (head place code : ℕ) (bx : Bx) (target : ℤ) (at : State) → InBox at bx
    → IsCovered (spu_image head code bx target) (spu_step head place code at) (cost_of spu (spu_step head place code at) target)
unfolding spu_image spu_step
image-covers head place code bx target at inside =
    piece-covers (spu_image head code bx target) (pos 1) (outputs_of head code bx) bx.a target (spu_step head place code at) (inl refl) (output-inside head code bx at inside) inside.in_a (0, omega arith, refl)

image-point : (head place code : ℕ) (target : ℤ) (at : State)
    → spu_image head code (point_box at) target ≡ record { bx = point_box (spu_step head place code at); cost = cost_of spu (spu_step head place code at) target } ∷ []
unfolding spu_image spu_step
image-point head place code target at =
    let y = output_of head code at.a at.b in
    let one : span_to y y ≡ point_span y = spans-are (span_to y y) (point_span y) refl (greater-is y y (le-self y)) in
    ap (λ q. q ∷ []) (piece-point (pos 1) y (span_to y y) (point_box at).a target one)

piece-fits : (head code : ℕ) (bx : Bx) (target : ℤ) → IsSample target → IsOutputs outputs bx.a (output_piece (pos 1) (outputs_of head code bx) bx.a target)
piece-fits head code bx target sample = record {
  inside = record { low = (output-fits head code bx.a.lo bx.b.hi).low; high = (subst IsSample (sym (outputs-end head code bx)) (output-fits head code bx.a.hi bx.b.lo)).high };
  after = refl;
  small = piece-small (pos 1) (outputs_of head code bx) bx.a target (inl refl) (output-fits head code bx.a.lo bx.b.hi) sample;
}

image-fits : (head code : ℕ) (bx : Bx) (target : ℤ) (q : Piece) → IsSample target → Contains (spu_image head code bx target) q → IsOutputs outputs bx.a q
unfolding spu_image
image-fits head code bx target q sample there =
    subst (IsOutputs outputs bx.a) (one-piece (output_piece (pos 1) (outputs_of head code bx) bx.a target) q there) (piece-fits head code bx target sample)

image-alike : (g h code : ℕ) (bx : Bx) (target : ℤ) → lane_of g ≡ lane_of h → spu_image g code bx target ≡ spu_image h code bx target
unfolding spu_image
image-alike g h code bx target e =
    let lo = same-output g h code bx.a.lo bx.b.hi e in
    let hi = same-output g h code bx.a.hi bx.b.lo e in
    let mk : ℤ → ℤ → List Piece = λ x y. output_piece (pos 1) (span_to x y) bx.a target ∷ [] in
    ap (λ x. mk x (greatest_output g code bx)) lo ∙ ap (mk (least_output h code bx)) hi

-- outputs have 16 bits
first-sample : IsSample (negsuc 32767)
first-sample = record { low = omega (arith, ints); high = omega (arith, ints) }

last-sample : IsSample (pos 32767)
last-sample = record { low = omega (arith, ints); high = omega (arith, ints) }

-- all laws of boxes and cells
pub spu_is_boxed : IsBoxed spu_rules
spu_is_boxed = record {
  covers = λ head p symbol bx target at move is_box sample is inside. image-covers head p symbol bx target at inside;
  single = λ head p symbol target at move sample is. image-point head p symbol target at;
  pieces_fit = λ head p symbol bx target q move is_box sample there. piece-is-box outputs bx q is_box (image-fits head symbol bx target q sample there);
  pieces_small = λ head p symbol bx target q move is_box sample there. (image-fits head symbol bx target q sample there).small;
  images_alike = λ g h p symbol bx target g_fits h_fits later within same. image-alike g h symbol bx target same;
  spans = λ p target slack within sample. (omega arith, omega arith);
  spanned = λ head p symbol bx target slack q move is_box sample outside there. all-tried symbol 15 move.symbol_fits outside;
  boxes_inside = λ p bx within is_box. corners-inside outputs bx is_box;
  whole_small = (first-sample, last-sample, first-sample, last-sample);
  cells_fit = λ level p cell is_level within is. cell-is-box outputs (negsuc 127) (pos 128) level cell refl refl is_level is;
  floors_met = λ head p level bx cell targets is_level head_fits within is_box stands. refl;
}
