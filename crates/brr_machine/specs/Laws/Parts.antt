-- The parts of a cut interval: spans of outputs, at small costs; and one part for one number.
use Rattle.std.proofs.Common.{◌≡◌, zero, suc, arith, refl, inr, ap, sym, ◌∙◌, subst, List, [], ◌∷◌, Bool, true, false, if◌then◌else◌}
use Rattle.std.specs.Prelude.{ℤ, pos, negsuc, ◌+ℤ◌, ◌-ℤ◌, ◌*ℤ◌, ◌≤ℤ◌, ◌<ℤ◌, int_le}
use Rattle.std.specs.Int.{int_min, int_max}
use Rattle.std.specs.List.{Contains}
use Rattle.std.proofs.lemmas.Int.{ints}
use Rattle.adpcm_nums.specs.Nums.{wrap15_of, square_of}
use Rattle.adpcm_nums.specs.Sample.{IsSample}
use Rattle.adpcm_nums.specs.Spans.{point_span, span_to, spans-are}
use Rattle.adpcm_nums.specs.declared.span.Span.{Span}
use Rattle.adpcm_nums.proofs.IntTests.{from-test}
use Rattle.machine_core.specs.declared.pieces.Piece.{Piece}
use Rattle.machine_core.specs.Images.{output_piece}
use Rattle.machine_core.proofs.PieceLaws.{piece-point, piece-small}
use Rattle.machine_core.proofs.OutputBoxes.{IsOutputs}
use Rattle.brr_machine.specs.Boxes.{outputs}
use Rattle.brr_machine.specs.Image.{piece_before, part, parts}
use Rattle.brr_machine.specs.Laws.States.{IsOutput}
use Rattle.brr_machine.specs.Laws.Ranges.{wrapped}
use Rattle.brr_machine.specs.Laws.Cuts.{IsTurn, up, none, down, wraps, wraps-by, piece-is, piece-skips, last_parts, later_parts}

all-if : (b : Bool) (p : Piece) (rest : List Piece) (P : Piece → Type 0) → (b ≡ true → P p) → ((q : Piece) → Contains rest q → P q) → (q : Piece) → Contains (if b then p ∷ rest else rest) q → P q
all-if true p rest P first later q (zero, l, e) = subst P e (first refl)
all-if true p rest P first later q (suc n, l, e) = later q (n, omega arith, e)
all-if false p rest P first later q there = later q there

piece-all : (lo hi : ℤ) (last : Span) (target : ℤ) (rest : List Piece) (P : Piece → Type 0) → (lo ≤ℤ hi → P (output_piece (pos 2) (span_to lo hi) last target))
    → ((q : Piece) → Contains rest q → P q) → (q : Piece) → Contains (piece_before lo hi last target rest) q → P q
unfolding piece_before
piece-all lo hi last target rest P first later q there =
    all-if (int_le lo hi) (output_piece (pos 2) (span_to lo hi) last target) rest P (λ e. first (from-test lo hi e)) later q there

max-low : (x y : ℤ) → y ≤ℤ int_max x y
max-low x y = grind (arith, ints)

min-high : (x y : ℤ) → int_min x y ≤ℤ y
min-high x y = grind (arith, ints)

max-high : (x y z : ℤ) → x ≤ℤ z → y ≤ℤ z → int_max x y ≤ℤ z
max-high x y z h k = grind (arith, ints)

-- outputs in order make a piece that fits
piece-fits : (lo hi : ℤ) (last : Span) (target : ℤ) → IsSample target → negsuc 16383 ≤ℤ lo → hi ≤ℤ pos 16383 → lo ≤ℤ hi → IsOutputs outputs last (output_piece (pos 2) (span_to lo hi) last target)
piece-fits lo hi last target sample l h order = record {
  inside = record { low = l; high = max-high lo hi (pos 16383) (omega (arith, ints)) h };
  after = refl;
  small = piece-small (pos 2) (span_to lo hi) last target (inr refl) (record { low = omega (arith, ints); high = omega (arith, ints) }) sample;
}

part-fits : (by lo hi : ℤ) (last : Span) (target : ℤ) (rest : List Piece) → IsSample target → ((q : Piece) → Contains rest q → IsOutputs outputs last q)
    → (q : Piece) → Contains (part by lo hi last target rest) q → IsOutputs outputs last q
part-fits by lo hi last target rest sample later q there =
    piece-all (int_max (lo +ℤ by) (negsuc 16383)) (int_min (hi +ℤ by) (pos 16383)) last target rest (IsOutputs outputs last)
    (λ order. piece-fits _ _ last target sample (max-low (lo +ℤ by) (negsuc 16383)) (min-high (hi +ℤ by) (pos 16383)) order) later q there

no-more : (last : Span) (q : Piece) → Contains [] q → IsOutputs outputs last q
no-more last q there = absurd (omega (arith, there.1))

pub parts-fit : (lo hi : ℤ) (last : Span) (target : ℤ) (q : Piece) → IsSample target → Contains (parts lo hi last target) q → IsOutputs outputs last q
unfolding parts
parts-fit lo hi last target q sample there =
    part-fits (pos 32768) lo hi last target (later_parts lo hi last target) sample
    (part-fits (pos 0) lo hi last target (last_parts lo hi last target) sample (part-fits (negsuc 32767) lo hi last target [] sample (no-more last))) q there

-- the piece of one output
abbrev pub one_output : ℤ → Span → ℤ → Piece
one_output y last target = record { bx = record { a = point_span y; b = last }; cost = square_of (pos 2 *ℤ y -ℤ target) }

max-is : (x z : ℤ) → z ≤ℤ x → int_max x z ≡ x
max-is x z h = grind (arith, ints)

min-is : (x z : ℤ) → x ≤ℤ z → int_min x z ≡ x
min-is x z h = grind (arith, ints)

-- a span from an output to itself
same-span : (y lo hi : ℤ) → lo ≡ y → hi ≡ y → span_to lo hi ≡ point_span y
same-span y lo hi a b = spans-are (span_to lo hi) (point_span y) a (max-is lo hi (omega (arith, ints)) ∙ a)

-- where one number lands in 15 bits, its part is its output
lands : (by y out : ℤ) (last : Span) (target : ℤ) (rest : List Piece) → IsOutput out → y +ℤ by ≡ out → part by y y last target rest ≡ one_output out last target ∷ rest
lands by y out last target rest range e =
    let low = range.low in let high = range.high in
    let lo : int_max (y +ℤ by) (negsuc 16383) ≡ out = max-is (y +ℤ by) (negsuc 16383) (omega (arith, ints)) ∙ e in
    let hi : int_min (y +ℤ by) (pos 16383) ≡ out = min-is (y +ℤ by) (pos 16383) (omega (arith, ints)) ∙ e in
    piece-is _ _ last target rest (omega (arith, ints, lo, hi))
    ∙ ap (λ p. p ∷ rest) (piece-point (pos 2) out (span_to (int_max (y +ℤ by) (negsuc 16383)) (int_min (y +ℤ by) (pos 16383))) last target (same-span out _ _ lo hi))

apart-low : (z : ℤ) → z <ℤ negsuc 16383 → int_min z (pos 16383) <ℤ int_max z (negsuc 16383)
apart-low z h = grind (arith, ints)

apart-high : (z : ℤ) → pos 16383 <ℤ z → int_min z (pos 16383) <ℤ int_max z (negsuc 16383)
apart-high z h = grind (arith, ints)

-- where it does not, there is none
misses-low : (by y : ℤ) (last : Span) (target : ℤ) (rest : List Piece) → (y +ℤ by) <ℤ negsuc 16383 → part by y y last target rest ≡ rest
misses-low by y last target rest h = piece-skips _ _ last target rest (apart-low (y +ℤ by) h)

misses-high : (by y : ℤ) (last : Span) (target : ℤ) (rest : List Piece) → pos 16383 <ℤ (y +ℤ by) → part by y y last target rest ≡ rest
misses-high by y last target rest h = piece-skips _ _ last target rest (apart-high (y +ℤ by) h)

point-by : (by y out : ℤ) (last : Span) (target : ℤ) → IsTurn by → IsOutput out → out ≡ y +ℤ by → parts y y last target ≡ one_output out last target ∷ []
unfolding parts
point-by by y out last target up range e =
    let low = range.low in let high = range.high in
    lands (pos 32768) y out last target (later_parts y y last target) range (sym e)
    ∙ ap (λ rest. one_output out last target ∷ rest)
    (misses-low (pos 0) y last target (last_parts y y last target) (omega (arith, ints)) ∙ misses-low (negsuc 32767) y last target [] (omega (arith, ints)))
point-by by y out last target none range e =
    let low = range.low in let high = range.high in
    misses-high (pos 32768) y last target (later_parts y y last target) (omega (arith, ints))
    ∙ lands (pos 0) y out last target (last_parts y y last target) range (sym e)
    ∙ ap (λ rest. one_output out last target ∷ rest) (misses-low (negsuc 32767) y last target [] (omega (arith, ints)))
point-by by y out last target down range e =
    let low = range.low in let high = range.high in
    misses-high (pos 32768) y last target (later_parts y y last target) (omega (arith, ints))
    ∙ misses-high (pos 0) y last target (last_parts y y last target) (omega (arith, ints))
    ∙ lands (negsuc 32767) y out last target [] range (sym e)

pub parts-point : (y : ℤ) (last : Span) (target : ℤ) → IsSample y → parts y y last target ≡ one_output (wrap15_of y) last target ∷ []
parts-point y last target range =
    elim (wraps-by y range) [
      | wraps by turn moved ↦ point-by by y (wrap15_of y) last target turn (wrapped y) moved
    ]
