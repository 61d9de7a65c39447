use Rattle.std.proofs.Common.{arith, All, subst}
use Rattle.std.proofs.lemmas.List.{drop_all, take_all}
use Rattle.tool_decompile.specs.EntryFiles.{entry_files, IsKept}
use Rattle.tool_decompile.proofs.EntrySteps.{files_more, files_all, kept_more}
use Rattle.tool_decompile.proofs.entry_files.entry_files.Goals as goal

pub loop-i-preserved : goal.loop-i-preserved
loop-i-preserved c = record {
  left = files_more c.args.output.now c.loop-i.files.items c.push.new.self.items (entry_files c.args.output.now 0 c.args.entries.now) c.in_ok-file.file c.args.entries.now c.loop-i.i c.index-entries-i.result
      c.loop-i-test.true c.index-entries-i.is c.loop-i.invariant.left c.in_ok-file.ensures.value c.in-Ok.ensures.items;
  kept = kept_more c.args.entries.now c.loop-i.i c.index-entries-i.result c.loop-i-test.true c.index-entries-i.is c.loop-i.invariant.kept c.in_ok-file.ensures.kept;
}

pub returns-clause-value : goal.returns-clause-value
returns-clause-value c =
    files_all c.args.output.now c.loop-i.files.items (entry_files c.args.output.now 0 c.args.entries.now) c.args.entries.now c.loop-i.i (drop_all c.loop-i.i c.args.entries.now (omega arith)) c.loop-i.invariant.left

pub returns-clause-kept : goal.returns-clause-kept
returns-clause-kept c = subst (All IsKept) (take_all c.loop-i.i c.args.entries.now (omega arith)) c.loop-i.invariant.kept
