use Rattle.std.proofs.Common.{◌≡◌, ◌++◌, drop, string_bytes}
use Rattle.tool_decompile.specs.EntryLines.{entry_lines}
use Rattle.tool_decompile.proofs.entry_lines.lines_of.Given as goal

abbrev pub invariant-loop-i : goal.invariant-loop-i
invariant-loop-i l = string_bytes l.lines ++ entry_lines l.i (drop l.i l.entries) ≡ entry_lines 0 l.entries
