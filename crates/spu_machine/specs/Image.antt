-- The image of a box of states: where a head and a code lead it.
use Rattle.std.specs.Prelude.{ℕ, ℤ, pos, List, [], ◌∷◌}
use Rattle.adpcm_nums.specs.Spans.{span_to}
use Rattle.machine_core.specs.declared.boxes.Bx.{Bx}
use Rattle.machine_core.specs.declared.pieces.Piece.{Piece}
use Rattle.machine_core.specs.Images.{output_piece}
use Rattle.spu_machine.specs.Spu.{output_of}

-- an output rises with the last output and falls with the one before it: so all that comes of a box lies between what comes of two corners
unfoldable pub spu_image : ℕ → ℕ → Bx → ℤ → List Piece
spu_image head code bx target = output_piece (pos 1) (span_to (output_of head code bx.a.lo bx.b.hi) (output_of head code bx.a.hi bx.b.lo)) bx.a target ∷ []
