use Rattle.std.proofs.Common.{string_bytes, arith}
use Rattle.std.proofs.lemmas.List.{drop_all}
use Rattle.tool_decompile.specs.EntryLines.{entry_lines}
use Rattle.tool_decompile.proofs.EntrySteps.{lines_more, lines_all}
use Rattle.tool_decompile.proofs.entry_lines.lines_of.Goals as goal

pub loop-i-preserved : goal.loop-i-preserved
loop-i-preserved c =
    lines_more (string_bytes c.loop-i.lines) (string_bytes c.push_entry.new.lines) (entry_lines 0 c.args.entries.now) c.args.entries.now c.loop-i.i c.index-entries-i.result
    c.loop-i-test.true c.index-entries-i.is c.loop-i.invariant c.in_ok-push_entry.ensures

pub returns : goal.returns
returns c =
    lines_all (string_bytes c.loop-i.lines) (entry_lines 0 c.args.entries.now) c.args.entries.now c.loop-i.i (drop_all c.loop-i.i c.args.entries.now (omega arith)) c.loop-i.invariant
