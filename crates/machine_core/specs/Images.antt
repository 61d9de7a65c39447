-- Pieces of decoders that keep the last two outputs.
use Rattle.std.specs.Prelude.{ℤ}
use Rattle.adpcm_nums.specs.Nearest.{distance_sq_of}
use Rattle.adpcm_nums.specs.declared.span.Span.{Span}
use Rattle.machine_core.specs.declared.pieces.Piece.{Piece}

-- a span of outputs, after a span of last outputs: the least cost is that of the output whose multiple is nearest to the target
abbrev pub output_piece : ℤ → Span → Span → ℤ → Piece
output_piece scale outputs last target = record { bx = record { a = outputs; b = last }; cost = distance_sq_of outputs.lo outputs.hi scale target }
