-- The image of a box of states: where a head and a symbol lead it; and which first symbols may cost at most a slack.
use Rattle.std.specs.Prelude.{ℕ, zero, suc, ◌+◌, ◌-◌, ◌*◌, ◌==◌, nat_le, min, if◌then◌else◌, ℤ, pos, List, [], ◌∷◌}
use Rattle.adpcm_nums.specs.Spans.{point_span, span_to}
use Rattle.machine_core.specs.declared.state.State.{State}
use Rattle.machine_core.specs.declared.boxes.Bx.{Bx}
use Rattle.machine_core.specs.declared.pieces.Piece.{Piece}
use Rattle.machine_core.specs.Boxes.{low_corner}
use Rattle.machine_core.specs.Images.{output_piece}
use Rattle.ima_machine.specs.Ima.{first_state, later_state}
use Rattle.ima_machine.specs.Spelling.{symbol_of}

-- at the first place the one state that the symbol gives
abbrev pub first_piece : ℕ → ℕ → ℤ → Piece
first_piece head symbol target = output_piece (pos 1) (point_span (first_state head symbol).a) (point_span (first_state head symbol).b) target

-- the states of a box's least and greatest output, which have one index after the first place
abbrev pub greatest : Bx → State
greatest bx = record { a = bx.a.hi; b = bx.b.lo }

-- later the outputs between those of both, and the one next index
abbrev pub later_piece : ℕ → Bx → ℤ → Piece
later_piece code bx target =
    output_piece (pos 1) (span_to (later_state code (low_corner bx)).a (later_state code (greatest bx)).a) (point_span (later_state code (low_corner bx)).b) target

unfoldable pub ima_image : ℕ → ℕ → ℕ → Bx → ℤ → List Piece
ima_image head p symbol bx target = (if p == 0 then first_piece head symbol target else later_piece symbol bx target) ∷ []

-- the greatest number up to n whose square is at most the slack
unfoldable pub root_below : ℕ → ℕ → ℕ
root_below zero slack = 0
root_below (suc n) slack = if nat_le (suc n * suc n) slack then suc n else root_below n slack

-- how far a first output may be from its target
unfoldable pub reach_of : ℕ → ℕ
reach_of slack = root_below 65535 slack

-- at the first place the symbols that are no further from the target's own than that, later all codes
abbrev pub first_symbol : ℕ → ℤ → ℕ → ℕ
first_symbol p target slack = if p == 0 then symbol_of target - reach_of slack else 0

abbrev pub last_symbol : ℕ → ℤ → ℕ → ℕ
last_symbol p target slack = if p == 0 then min 65535 (symbol_of target + reach_of slack) else 15
