-- Boxes of the states of BRR.
use Rattle.std.specs.Prelude.{◌&&◌, Bool, pos, negsuc}
use Rattle.adpcm_nums.specs.declared.span.Span.{Span}
use Rattle.machine_core.specs.declared.boxes.Bx.{Bx}
use Rattle.brr_machine.specs.Brr.{is_output}

-- every number of the span is an output
abbrev pub is_output_span : Span → Bool
is_output_span s = is_output s.lo && is_output s.hi

abbrev pub is_brr_box : Bx → Bool
is_brr_box bx = is_output_span bx.a && is_output_span bx.b

-- all outputs
abbrev pub outputs : Span
outputs = record { lo = negsuc 16383; hi = pos 16383; order = record { le = tt } }

abbrev pub all_states : Bx
all_states = record { a = outputs; b = outputs }
