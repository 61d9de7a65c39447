-- The image of a box of states: where a head and a code lead it.
use Rattle.std.specs.Prelude.{ℕ, ℤ, pos, negsuc, ◌+ℤ◌, int_le, if◌then◌else◌, List, [], ◌∷◌}
use Rattle.std.specs.Int.{int_min, int_max}
use Rattle.adpcm_nums.specs.Nums.{clamp16_of}
use Rattle.adpcm_nums.specs.Spans.{span_to}
use Rattle.adpcm_nums.specs.declared.span.Span.{Span}
use Rattle.machine_core.specs.declared.boxes.Bx.{Bx}
use Rattle.machine_core.specs.declared.pieces.Piece.{Piece}
use Rattle.machine_core.specs.Images.{output_piece}
use Rattle.brr_machine.specs.Brr.{raw_of}

-- the piece of the outputs lo..hi before other pieces; none where there are no such outputs
unfoldable pub piece_before : ℤ → ℤ → Span → ℤ → List Piece → List Piece
piece_before lo hi last target rest = if int_le lo hi then output_piece (pos 2) (span_to lo hi) last target ∷ rest else rest

-- the numbers lo..hi, moved, that have 15 bits
abbrev pub part : ℤ → ℤ → ℤ → Span → ℤ → List Piece → List Piece
part by lo hi last target rest = piece_before (int_max (lo +ℤ by) (negsuc 16383)) (int_min (hi +ℤ by) (pos 16383)) last target rest

-- an interval of 16 bits, cut where its numbers wrap to 15 bits
unfoldable pub parts : ℤ → ℤ → Span → ℤ → List Piece
parts lo hi last target = part (pos 32768) lo hi last target (part (pos 0) lo hi last target (part (negsuc 32767) lo hi last target []))

-- what is clamped rises with the last output and falls with the one before it: so all that comes of a box lies between what comes of two corners
unfoldable pub brr_image : ℕ → ℕ → Bx → ℤ → List Piece
brr_image head code bx target = parts (clamp16_of (raw_of head code bx.a.lo bx.b.hi)) (clamp16_of (raw_of head code bx.a.hi bx.b.lo)) bx.a target
