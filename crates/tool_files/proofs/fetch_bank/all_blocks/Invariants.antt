use Rattle.std.proofs.Common.{◌≡◌, ◌*◌, ◌^◌, ◌≤◌, take}
use Rattle.std.specs.List.{sum_by}
use Rattle.tool_files.specs.declared.source.Source.{Source}
use Rattle.tool_files.proofs.fetch_bank.all_blocks.Given as goal

abbrev pub invariant-loop-source : goal.invariant-loop-source
invariant-loop-source l = record {
  all_is : l.all ≡ sum_by (λ (s : Source). s.fitted.blocks) (take l.source-index l.sources);
  high : l.all ≤ l.source-index * 2 ^ 32;
}
