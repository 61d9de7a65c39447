-- An interval that is cut at the wraps: it holds each of its numbers, wrapped; its parts are spans of outputs; one number has one part.
use Rattle.std.proofs.Common.{◌≡◌, ℕ, suc, arith, refl, inl, inr, sym, subst, List, [], ◌∷◌, Bool, true, false, if◌then◌else◌}
use Rattle.std.specs.Prelude.{ℤ, pos, negsuc, ◌+ℤ◌, ◌-ℤ◌, ◌*ℤ◌, ◌≤ℤ◌, ◌<ℤ◌, int_le}
use Rattle.std.specs.Int.{int_min, int_max}
use Rattle.std.specs.List.{Contains}
use Rattle.std.proofs.lemmas.Int.{ints}
use Rattle.adpcm_nums.specs.Nums.{wrap15_of, square_of}
use Rattle.adpcm_nums.specs.Sample.{IsSample}
use Rattle.adpcm_nums.specs.Spans.{span_to}
use Rattle.adpcm_nums.specs.declared.span.Span.{Span}
use Rattle.adpcm_nums.proofs.IntTests.{to-test}
use Rattle.adpcm_nums.proofs.OrderLaws.{le-or-gt}
use Rattle.machine_core.specs.declared.state.State.{State}
use Rattle.machine_core.specs.declared.pieces.Piece.{Piece}
use Rattle.machine_core.specs.Boxes.{InSpan, IsCovered}
use Rattle.machine_core.specs.Images.{output_piece}
use Rattle.machine_core.proofs.PieceLaws.{piece-covers}
use Rattle.brr_machine.specs.Image.{piece_before, part, parts}
use Rattle.brr_machine.specs.Laws.Ranges.{wrapped}

-- how far a wrap moves a number
pub data IsTurn : ℤ → Type 0 where
  up : IsTurn (pos 32768)
  none : IsTurn (pos 0)
  down : IsTurn (negsuc 32767)

-- a number of 16 bits wraps by one of three
pub data Wraps (y : ℤ) : Type 0 where
  wraps : (by : ℤ) → IsTurn by → wrap15_of y ≡ y +ℤ by → Wraps y

below-is : (y : ℤ) → negsuc 32767 ≤ℤ y → y ≤ℤ negsuc 16384 → wrap15_of y ≡ y +ℤ pos 32768
below-is y h k = grind (arith, ints)

inside-is : (y : ℤ) → negsuc 16383 ≤ℤ y → y ≤ℤ pos 16383 → wrap15_of y ≡ y +ℤ pos 0
inside-is y h k = grind (arith, ints)

over-is : (y : ℤ) → pos 16384 ≤ℤ y → y ≤ℤ pos 32767 → wrap15_of y ≡ y +ℤ negsuc 32767
over-is y h k = grind (arith, ints)

pub wraps-by : (y : ℤ) → IsSample y → Wraps y
wraps-by y range =
    let low = range.low in let high = range.high in
    elim (le-or-gt y (negsuc 16384)) [
      | inl under ↦ wraps (pos 32768) up (below-is y low under)
      | inr above ↦ elim (le-or-gt y (pos 16383)) [
        | inl under ↦ wraps (pos 0) none (inside-is y (omega (arith, ints)) under)
        | inr over ↦ wraps (negsuc 32767) down (over-is y (omega (arith, ints)) high)
      ]
    ]

-- where lo is at most hi, their piece is the first
here-if : (b : Bool) (p : Piece) (rest : List Piece) → b ≡ true → (if b then p ∷ rest else rest) ≡ p ∷ rest
here-if b p rest h = rw h refl

skip-if : (b : Bool) (p : Piece) (rest : List Piece) → b ≡ false → (if b then p ∷ rest else rest) ≡ rest
skip-if b p rest h = rw h refl

not-le : (x y : ℤ) → y <ℤ x → int_le x y ≡ false
not-le x y h = grind (arith, ints)

pub piece-is : (lo hi : ℤ) (last : Span) (target : ℤ) (rest : List Piece) → lo ≤ℤ hi
    → piece_before lo hi last target rest ≡ output_piece (pos 2) (span_to lo hi) last target ∷ rest
unfolding piece_before
piece-is lo hi last target rest h = here-if (int_le lo hi) _ rest (to-test lo hi h)

pub piece-skips : (lo hi : ℤ) (last : Span) (target : ℤ) (rest : List Piece) → hi <ℤ lo → piece_before lo hi last target rest ≡ rest
unfolding piece_before
piece-skips lo hi last target rest h = skip-if (int_le lo hi) _ rest (not-le lo hi h)

first-there : (p : Piece) (rest pieces : List Piece) → pieces ≡ p ∷ rest → Contains pieces p
first-there p rest pieces e = subst (λ (l : List Piece). Contains l p) (sym e) (0, omega arith, refl)

there-if : (b : Bool) (p q : Piece) (rest : List Piece) → Contains rest q → Contains (if b then p ∷ rest else rest) q
there-if true p q rest (k, h, e) = (suc k, omega arith, e)
there-if false p q rest h = h

piece-later : (lo hi : ℤ) (last : Span) (target : ℤ) (rest : List Piece) (q : Piece) → Contains rest q → Contains (piece_before lo hi last target rest) q
unfolding piece_before
piece-later lo hi last target rest q there = there-if (int_le lo hi) _ q rest there

greatest : (x y z : ℤ) → x ≤ℤ z → y ≤ℤ z → int_max x y ≤ℤ z
greatest x y z h k = grind (arith, ints)

least : (x y z : ℤ) → z ≤ℤ x → z ≤ℤ y → z ≤ℤ int_min x y
least x y z h k = grind (arith, ints)

second : (x y z : ℤ) → z ≤ℤ y → z ≤ℤ int_max x y
second x y z h = grind (arith, ints)

-- a part covers each of its numbers
part-covers : (by lo hi y : ℤ) (last : Span) (r target : ℤ) (rest : List Piece) → lo ≤ℤ y → y ≤ℤ hi → wrap15_of y ≡ y +ℤ by → InSpan r last
    → IsCovered (part by lo hi last target rest) (record { a = wrap15_of y; b = r }) (square_of (pos 2 *ℤ wrap15_of y -ℤ target))
part-covers by lo hi y last r target rest a b moved inside =
    let range = wrapped y in let low = range.low in let high = range.high in
    let l = int_max (lo +ℤ by) (negsuc 16383) in
    let h = int_min (hi +ℤ by) (pos 16383) in
    let above = greatest (lo +ℤ by) (negsuc 16383) (wrap15_of y) (omega (arith, ints)) low in
    let below = least (hi +ℤ by) (pos 16383) (wrap15_of y) (omega (arith, ints)) high in
    let order : l ≤ℤ h = omega (arith, ints, above, below) in
    let out : InSpan (wrap15_of y) (span_to l h) = record { above = above; below = second l h (wrap15_of y) below } in
    piece-covers (part by lo hi last target rest) (pos 2) (span_to l h) last target (record { a = wrap15_of y; b = r }) (inr refl) out inside
    (first-there _ rest _ (piece-is l h last target rest order))

-- what is covered stays covered behind another part
covered-later : (lo hi : ℤ) (last : Span) (target : ℤ) (rest : List Piece) (at : State) (most : ℕ) → IsCovered rest at most → IsCovered (piece_before lo hi last target rest) at most
covered-later lo hi last target rest at most c = record { piece = c.piece; there = piece-later lo hi last target rest c.piece c.there; holds = c.holds; cheap = c.cheap }

-- the parts after the first, and the last
abbrev pub last_parts : ℤ → ℤ → Span → ℤ → List Piece
last_parts lo hi last target = part (negsuc 32767) lo hi last target []

abbrev pub later_parts : ℤ → ℤ → Span → ℤ → List Piece
later_parts lo hi last target = part (pos 0) lo hi last target (last_parts lo hi last target)

covered-by : (by lo hi y : ℤ) (last : Span) (r target : ℤ) → IsTurn by → lo ≤ℤ y → y ≤ℤ hi → wrap15_of y ≡ y +ℤ by → InSpan r last
    → IsCovered (parts lo hi last target) (record { a = wrap15_of y; b = r }) (square_of (pos 2 *ℤ wrap15_of y -ℤ target))
unfolding parts
covered-by by lo hi y last r target up a b moved inside = part-covers (pos 32768) lo hi y last r target (later_parts lo hi last target) a b moved inside
covered-by by lo hi y last r target none a b moved inside =
    covered-later _ _ last target (later_parts lo hi last target) _ _ (part-covers (pos 0) lo hi y last r target (last_parts lo hi last target) a b moved inside)
covered-by by lo hi y last r target down a b moved inside =
    covered-later _ _ last target (later_parts lo hi last target) _ _
    (covered-later _ _ last target (last_parts lo hi last target) _ _ (part-covers (negsuc 32767) lo hi y last r target [] a b moved inside))

pub parts-cover : (lo hi y : ℤ) (last : Span) (r target : ℤ) → IsSample y → lo ≤ℤ y → y ≤ℤ hi → InSpan r last
    → IsCovered (parts lo hi last target) (record { a = wrap15_of y; b = r }) (square_of (pos 2 *ℤ wrap15_of y -ℤ target))
parts-cover lo hi y last r target range a b inside =
    elim (wraps-by y range) [
      | wraps by turn moved ↦ covered-by by lo hi y last r target turn a b moved inside
    ]
