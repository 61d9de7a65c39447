-- Boxes of the states of SPU-ADPCM.
use Rattle.std.specs.Prelude.{◌&&◌, Bool, pos, negsuc}
use Rattle.adpcm_nums.specs.declared.span.Span.{Span}
use Rattle.machine_core.specs.declared.boxes.Bx.{Bx}
use Rattle.spu_machine.specs.Spu.{is_output}

-- every number of the span is an output
abbrev pub is_output_span : Span → Bool
is_output_span s = is_output s.lo && is_output s.hi

abbrev pub is_spu_box : Bx → Bool
is_spu_box bx = is_output_span bx.a && is_output_span bx.b

-- all outputs
abbrev pub outputs : Span
outputs = record { lo = negsuc 32767; hi = pos 32767; order = record { le = tt } }

abbrev pub all_states : Bx
all_states = record { a = outputs; b = outputs }
