-- The image of a box: what it covers, and the image of one state.
use Rattle.std.proofs.Common.{◌≡◌, ℕ, zero, suc, ◌^◌, ◌<◌, ◌≤◌, arith, refl, ap, sym, ◌∙◌, subst, inl, false, List, [], ◌∷◌}
use Rattle.std.specs.Prelude.{ℤ, pos, ◌+ℤ◌, ◌-ℤ◌, ◌*ℤ◌, ◌≤ℤ◌, int_le, ◌==◌, ◌&&◌, ◌||◌, IsTrue, unsigned_abs, Bool}
use Rattle.std.specs.Int.{int_max}
use Rattle.std.specs.List.{Contains}
use Rattle.std.proofs.lemmas.Int.{ints}
use Rattle.std.proofs.lemmas.Bool.{and_parts, cond-false}
use Rattle.adpcm_nums.specs.Nums.{square_of}
use Rattle.adpcm_nums.specs.Sample.{IsSample}
use Rattle.adpcm_nums.specs.Spans.{le-self, point_span, span_to, spans-are}
use Rattle.adpcm_nums.specs.declared.span.Span.{Span}
use Rattle.adpcm_nums.proofs.ClampLaws.{clamp-rises, greater-is}
use Rattle.adpcm_nums.proofs.IntTests.{from-test}
use Rattle.machine_core.specs.declared.state.State.{State}
use Rattle.machine_core.specs.declared.boxes.Bx.{Bx}
use Rattle.machine_core.specs.declared.pieces.Piece.{Piece}
use Rattle.machine_core.specs.Boxes.{InSpan, InBox, IsCovered, point_box, low_corner}
use Rattle.machine_core.specs.Decoder.{cost_of}
use Rattle.machine_core.specs.Images.{output_piece}
use Rattle.machine_core.proofs.PieceLaws.{one-piece, piece-covers, piece-point, piece-small}
use Rattle.machine_core.proofs.Places.{not-first}
use Rattle.ima_machine.specs.Steps.{difference_of, next_index}
use Rattle.ima_machine.specs.Ima.{ima, ima_step, first_state, later_state, is_ima_state, symbols_at}
use Rattle.ima_machine.specs.Boxes.{is_ima_box, is_output_span, is_index_span}
use Rattle.ima_machine.specs.Image.{first_piece, later_piece, greatest, ima_image}
use Rattle.ima_machine.specs.Laws.States.{IsIndex, output_of, index_of}
use Rattle.ima_machine.specs.Laws.Stepping.{step-first, step-later, step-fits}

pub image-first : (head symbol : ℕ) (bx : Bx) (target : ℤ) → ima_image head 0 symbol bx target ≡ first_piece head symbol target ∷ []
unfolding ima_image
image-first head symbol bx target = refl

pub image-later : (head p symbol : ℕ) (bx : Bx) (target : ℤ) → 0 < p → ima_image head p symbol bx target ≡ later_piece symbol bx target ∷ []
unfolding ima_image
image-later head p symbol bx target later = ap (λ (q : Piece). q ∷ []) (cond-false (p == 0) (first_piece head symbol target) (later_piece symbol bx target) (not-first p later))

-- after the first place a box has one index
pub one-index : (p : ℕ) (bx : Bx) → 0 < p → IsTrue (is_ima_box p bx) → bx.b.hi ≤ℤ bx.b.lo
one-index p bx later is =
    let parts = (and_parts _ _ (and_parts (is_output_span bx.a) (is_index_span bx.b && (p == 0 || int_le bx.b.hi bx.b.lo)) is).1).1 in
    let first : (p == 0) ≡ false = not-first p later in
    from-test bx.b.hi bx.b.lo (sym (ap (λ b. b || int_le bx.b.hi bx.b.lo) first) ∙ parts)

pub same-index : (p : ℕ) (bx : Bx) (at : State) → 0 < p → IsTrue (is_ima_box p bx) → InBox at bx → bx.b.lo ≡ at.b
same-index p bx at later is inside = let one = one-index p bx later is in let above = inside.in_b.above in let below = inside.in_b.below in omega (arith, ints)

-- outputs rise with the last output, at one index
pub later-rises : (code : ℕ) (s t : State) → s.a ≤ℤ t.a → s.b ≡ t.b → (later_state code s).a ≤ℤ (later_state code t).a
unfolding later_state
later-rises code s t order e = let same = ap (λ i. difference_of (unsigned_abs i) code) e in
    clamp-rises (s.a +ℤ difference_of (unsigned_abs s.b) code) (t.a +ℤ difference_of (unsigned_abs t.b) code) (omega (arith, ints, same))

later-same : (code : ℕ) (s t : State) → s.b ≡ t.b → (later_state code s).b ≡ (later_state code t).b
unfolding later_state
later-same code s t e = ap (λ i. pos (next_index (unsigned_abs i) code)) e

-- the span ends with the greatest output
pub outputs-end : (code : ℕ) (bx : Bx) → int_max (later_state code (low_corner bx)).a (later_state code (greatest bx)).a ≡ (later_state code (greatest bx)).a
outputs-end code bx = greater-is _ _ (later-rises code (low_corner bx) (greatest bx) bx.a.order refl)

-- what is covered
first-covers : (head symbol : ℕ) (target : ℤ) → IsCovered (first_piece head symbol target ∷ []) (first_state head symbol) (square_of (pos 1 *ℤ (first_state head symbol).a -ℤ target))
first-covers head symbol target =
    let s = first_state head symbol in
    piece-covers (first_piece head symbol target ∷ []) (pos 1) (point_span s.a) (point_span s.b) target s (inl refl)
    (record { above = le-self s.a; below = le-self s.a }) (record { above = le-self s.b; below = le-self s.b }) (0, omega arith, refl)

later-covers : (p code : ℕ) (bx : Bx) (target : ℤ) (at : State) → 0 < p → IsTrue (is_ima_box p bx) → InBox at bx
    → IsCovered (later_piece code bx target ∷ []) (later_state code at) (square_of (pos 1 *ℤ (later_state code at).a -ℤ target))
later-covers p code bx target at later is inside =
    let low = low_corner bx in
    let high = greatest bx in
    let index = same-index p bx at later is inside in
    let next = later-same code low at index in
    let rises = later-rises code at high inside.in_a.below (sym index) in
    piece-covers (later_piece code bx target ∷ []) (pos 1) (span_to (later_state code low).a (later_state code high).a) (point_span (later_state code low).b) target (later_state code at) (inl refl)
    (record { above = later-rises code low at inside.in_a.above index; below = subst (λ (z : ℤ). (later_state code at).a ≤ℤ z) (sym (outputs-end code bx)) rises })
    (record { above = omega (arith, ints, next); below = omega (arith, ints, next) }) (0, omega arith, refl)

pub image-covers : (samples head p symbol : ℕ) (bx : Bx) (target : ℤ) (at : State) → IsTrue (is_ima_box p bx) → InBox at bx
    → IsCovered (ima_image head p symbol bx target) (ima_step head p symbol at) (cost_of (ima samples) (ima_step head p symbol at) target)
image-covers samples head zero symbol bx target at is inside =
    subst (λ (s : State). IsCovered (ima_image head 0 symbol bx target) s (square_of (pos 1 *ℤ s.a -ℤ target))) (sym (step-first head symbol at))
    (subst (λ (l : List Piece). IsCovered l (first_state head symbol) (square_of (pos 1 *ℤ (first_state head symbol).a -ℤ target))) (sym (image-first head symbol bx target)) (first-covers head symbol target))
image-covers samples head (suc p) symbol bx target at is inside =
    subst (λ (s : State). IsCovered (ima_image head (suc p) symbol bx target) s (square_of (pos 1 *ℤ s.a -ℤ target))) (sym (step-later head (suc p) symbol at (omega arith)))
    (subst (λ (l : List Piece). IsCovered l (later_state symbol at) (square_of (pos 1 *ℤ (later_state symbol at).a -ℤ target))) (sym (image-later head (suc p) symbol bx target (omega arith)))
    (later-covers (suc p) symbol bx target at (omega arith) is inside))

-- the image of one state
abbrev stepped : State → ℤ → List Piece
stepped s target = record { bx = point_box s; cost = square_of (pos 1 *ℤ s.a -ℤ target) } ∷ []

first-point : (head symbol : ℕ) (target : ℤ) → first_piece head symbol target ∷ [] ≡ stepped (first_state head symbol) target
first-point head symbol target = let s = first_state head symbol in ap (λ (q : Piece). q ∷ []) (piece-point (pos 1) s.a (point_span s.a) (point_span s.b) target refl)

later-point : (code : ℕ) (target : ℤ) (at : State) → later_piece code (point_box at) target ∷ [] ≡ stepped (later_state code at) target
later-point code target at =
    let s = later_state code at in
    let one : span_to s.a s.a ≡ point_span s.a = spans-are (span_to s.a s.a) (point_span s.a) refl (greater-is s.a s.a (le-self s.a)) in
    ap (λ (q : Piece). q ∷ []) (piece-point (pos 1) s.a (span_to s.a s.a) (point_span s.b) target one)

pub image-point : (samples head p symbol : ℕ) (target : ℤ) (at : State)
    → ima_image head p symbol (point_box at) target ≡ record { bx = point_box (ima_step head p symbol at); cost = cost_of (ima samples) (ima_step head p symbol at) target } ∷ []
image-point samples head zero symbol target at =
    image-first head symbol (point_box at) target ∙ first-point head symbol target ∙ ap (λ (s : State). stepped s target) (sym (step-first head symbol at))
image-point samples head (suc p) symbol target at =
    image-later head (suc p) symbol (point_box at) target (omega arith) ∙ later-point symbol target at ∙ ap (λ (s : State). stepped s target) (sym (step-later head (suc p) symbol at (omega arith)))

-- a piece of outputs and one index
pub record IsFit (q : Piece) : Type 0 where
  pub lo : IsSample q.bx.a.lo
  pub hi : IsSample q.bx.a.hi
  pub index : IsIndex q.bx.b.lo
  pub one : q.bx.b.hi ≡ q.bx.b.lo
  pub small : q.cost ≤ 2 ^ 34

first-piece-fits : (head symbol : ℕ) (target : ℤ) → IsSample target → IsTrue (is_ima_state (first_state head symbol)) → IsFit (first_piece head symbol target)
first-piece-fits head symbol target sample is =
    let s = first_state head symbol in
    let output = output_of s is in
    record { lo = output; hi = output; index = index_of s is; one = refl; small = piece-small (pos 1) (point_span s.a) (point_span s.b) target (inl refl) output sample }

later-piece-fits : (code : ℕ) (bx : Bx) (target : ℤ) → IsSample target → IsTrue (is_ima_state (later_state code (low_corner bx))) → IsTrue (is_ima_state (later_state code (greatest bx))) → IsFit (later_piece code bx target)
later-piece-fits code bx target sample low high =
    let s = later_state code (low_corner bx) in
    let t = later_state code (greatest bx) in
    let output = output_of s low in record {
      lo = output;
      hi = subst IsSample (sym (outputs-end code bx)) (output_of t high);
      index = index_of s low;
      one = refl;
      small = piece-small (pos 1) (span_to s.a t.a) (point_span s.b) target (inl refl) output sample;
    }

pub image-fits : (head p symbol : ℕ) (bx : Bx) (target : ℤ) (q : Piece) → head < 89 → symbol < symbols_at p → IsTrue (is_ima_state (low_corner bx)) → IsTrue (is_ima_state (greatest bx)) → IsSample target
    → Contains (ima_image head p symbol bx target) q → IsFit q
image-fits head zero symbol bx target q h s low high sample there =
    let is : IsTrue (is_ima_state (first_state head symbol)) = subst (λ (x : State). IsTrue (is_ima_state x)) (step-first head symbol (low_corner bx)) (step-fits head 0 symbol (low_corner bx) h s low) in
    let one = subst (λ (l : List Piece). Contains l q) (image-first head symbol bx target) there in
    subst IsFit (one-piece (first_piece head symbol target) q one) (first-piece-fits head symbol target sample is)
image-fits head (suc p) symbol bx target q h s low high sample there =
    let step : (at : State) → IsTrue (is_ima_state at) → IsTrue (is_ima_state (later_state symbol at)) = λ at is. subst (λ (x : State). IsTrue (is_ima_state x)) (step-later head (suc p) symbol at (omega arith)) (step-fits head (suc p) symbol at h s is) in
    let one = subst (λ (l : List Piece). Contains l q) (image-later head (suc p) symbol bx target (omega arith)) there in
    subst IsFit (one-piece (later_piece symbol bx target) q one) (later-piece-fits symbol bx target sample (step (low_corner bx) low) (step (greatest bx) high))

-- the cost of the piece of a first symbol
pub first-cost : (head symbol : ℕ) (bx : Bx) (target : ℤ) (q : Piece) → Contains (ima_image head 0 symbol bx target) q → q.cost ≡ square_of (pos 1 *ℤ (pos symbol -ℤ pos 32768) -ℤ target)
unfolding first_state
first-cost head symbol bx target q there =
    let one = one-piece (first_piece head symbol target) q (subst (λ (l : List Piece). Contains l q) (image-first head symbol bx target) there) in
    let point = piece-point (pos 1) (pos symbol -ℤ pos 32768) (point_span (pos symbol -ℤ pos 32768)) (point_span (pos head)) target refl in
    sym (ap (λ (x : Piece). x.cost) one) ∙ ap (λ (x : Piece). x.cost) point
