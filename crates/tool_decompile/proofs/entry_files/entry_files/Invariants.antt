use Rattle.std.proofs.Common.{◌≡◌, ◌++◌, drop, take, All}
use Rattle.tool_decompile.specs.EntryFiles.{entry_files, IsKept}
use Rattle.tool_decompile.proofs.entry_files.entry_files.Given as goal

abbrev pub invariant-loop-i : goal.invariant-loop-i
invariant-loop-i l = record {
  left : l.files.items ++ entry_files l.output l.i (drop l.i l.entries) ≡ entry_files l.output 0 l.entries;
  kept : All IsKept (take l.i l.entries);
}
