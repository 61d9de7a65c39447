use Rattle.std.proofs.Common.{◌≡◌, ◌++◌, string_bytes, take}
use Rattle.report_text.specs.Fault.{parts_text}
use Rattle.report_text.proofs.fault.push_parts.Given as goal

abbrev pub invariant-loop-part : goal.invariant-loop-part
invariant-loop-part l = string_bytes l.line ≡ string_bytes l.initial.line ++ parts_text (take l.part-index l.parts)
