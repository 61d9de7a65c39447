-- The decoder of BRR keeps the laws of boxes and cells.
use Rattle.std.proofs.Common.{◌≡◌, ℕ, arith, refl, ap, ◌∙◌, [], ◌∷◌}
use Rattle.std.specs.Prelude.{ℤ, pos, negsuc}
use Rattle.std.specs.List.{Contains}
use Rattle.std.proofs.lemmas.Int.{ints}
use Rattle.adpcm_nums.specs.Nums.{clamp16_of}
use Rattle.adpcm_nums.specs.Sample.{IsSample}
use Rattle.adpcm_nums.proofs.ClampLaws.{clamped, clamp-rises}
use Rattle.machine_core.specs.declared.state.State.{State}
use Rattle.machine_core.specs.declared.boxes.Bx.{Bx}
use Rattle.machine_core.specs.declared.pieces.Piece.{Piece}
use Rattle.machine_core.specs.Boxes.{InBox, IsCovered, point_box}
use Rattle.machine_core.specs.Decoder.{cost_of}
use Rattle.machine_core.specs.Boxed.{IsBoxed}
use Rattle.machine_core.proofs.OutputBoxes.{IsOutputs, corners-inside, piece-is-box, cell-is-box}
use Rattle.machine_core.proofs.PieceLaws.{all-tried}
use Rattle.brr_machine.specs.Brr.{brr, brr_step, raw_of, output_of}
use Rattle.brr_machine.specs.Boxes.{outputs}
use Rattle.brr_machine.specs.Image.{brr_image, parts}
use Rattle.brr_machine.specs.BrrRules.{brr_rules, lane_of}
use Rattle.brr_machine.specs.Laws.Lanes.{same-raw}
use Rattle.brr_machine.specs.Laws.Rises.{raw_rises}
use Rattle.brr_machine.specs.Laws.Cuts.{parts-cover}
use Rattle.brr_machine.specs.Laws.Parts.{parts-fit, parts-point}

image-covers : (head place code : ℕ) (bx : Bx) (target : ℤ) (at : State) → InBox at bx
    → IsCovered (brr_image head code bx target) (brr_step head place code at) (cost_of brr (brr_step head place code at) target)
unfolding brr_image brr_step output_of
image-covers head place code bx target at inside =
    parts-cover (clamp16_of (raw_of head code bx.a.lo bx.b.hi)) (clamp16_of (raw_of head code bx.a.hi bx.b.lo)) (clamp16_of (raw_of head code at.a at.b)) bx.a at.a target
    (clamped (raw_of head code at.a at.b))
    (clamp-rises _ _ (raw_rises head code bx.a.lo at.a bx.b.hi at.b inside.in_a.above inside.in_b.below))
    (clamp-rises _ _ (raw_rises head code at.a bx.a.hi at.b bx.b.lo inside.in_a.below inside.in_b.above))
    inside.in_a

image-point : (head place code : ℕ) (target : ℤ) (at : State)
    → brr_image head code (point_box at) target ≡ record { bx = point_box (brr_step head place code at); cost = cost_of brr (brr_step head place code at) target } ∷ []
unfolding brr_image brr_step output_of
image-point head place code target at = parts-point (clamp16_of (raw_of head code at.a at.b)) (point_box at).a target (clamped (raw_of head code at.a at.b))

image-fits : (head code : ℕ) (bx : Bx) (target : ℤ) (q : Piece) → IsSample target → Contains (brr_image head code bx target) q → IsOutputs outputs bx.a q
unfolding brr_image
image-fits head code bx target q sample there = parts-fit (clamp16_of (raw_of head code bx.a.lo bx.b.hi)) (clamp16_of (raw_of head code bx.a.hi bx.b.lo)) bx.a target q sample there

-- an image reads the raw results alone
image-alike : (g h code : ℕ) (bx : Bx) (target : ℤ) → lane_of g ≡ lane_of h → brr_image g code bx target ≡ brr_image h code bx target
unfolding brr_image
image-alike g h code bx target e =
    let lo = same-raw g h code bx.a.lo bx.b.hi e in
    let hi = same-raw g h code bx.a.hi bx.b.lo e in
    ap (λ x. parts (clamp16_of x) (clamp16_of (raw_of g code bx.a.hi bx.b.lo)) bx.a target) lo
    ∙ ap (λ x. parts (clamp16_of (raw_of h code bx.a.lo bx.b.hi)) (clamp16_of x) bx.a target) hi

-- outputs have 16 bits
first-sample : IsSample (negsuc 16383)
first-sample = record { low = omega (arith, ints); high = omega (arith, ints) }

last-sample : IsSample (pos 16383)
last-sample = record { low = omega (arith, ints); high = omega (arith, ints) }

-- all laws of boxes and cells
pub brr_is_boxed : IsBoxed brr_rules
brr_is_boxed = record {
  covers = λ head p symbol bx target at move is_box sample is inside. image-covers head p symbol bx target at inside;
  single = λ head p symbol target at move sample is. image-point head p symbol target at;
  pieces_fit = λ head p symbol bx target q move is_box sample there. piece-is-box outputs bx q is_box (image-fits head symbol bx target q sample there);
  pieces_small = λ head p symbol bx target q move is_box sample there. (image-fits head symbol bx target q sample there).small;
  images_alike = λ g h p symbol bx target g_fits h_fits later within same. image-alike g h symbol bx target same;
  spans = λ p target slack within sample. (omega arith, omega arith);
  spanned = λ head p symbol bx target slack q move is_box sample outside there. all-tried symbol 15 move.symbol_fits outside;
  boxes_inside = λ p bx within is_box. corners-inside outputs bx is_box;
  whole_small = (first-sample, last-sample, first-sample, last-sample);
  cells_fit = λ level p cell is_level within is. cell-is-box outputs (negsuc 63) (pos 64) level cell refl refl is_level is;
  floors_met = λ head p level bx cell targets is_level head_fits within is_box stands. refl;
}
