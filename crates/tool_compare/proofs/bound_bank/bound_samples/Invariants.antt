use Rattle.std.proofs.Common.{◌≡◌, ◌≤◌, Some, length, All}
use Rattle.host_files.specs.Outside.{Files}
use Rattle.manifest_reader.specs.Meaning.{content_of}
use Rattle.report_text.specs.declared.report.BoundReport.{BoundReport}
use Rattle.tool_compare.proofs.BoundSteps.{HasLists}
use Rattle.tool_compare.proofs.bound_bank.bound_samples.Given as goal

abbrev pub invariant-loop-j : goal.invariant-loop-j
invariant-loop-j g l =
    record {
      count : length l.reports.items ≡ l.j;
      bounds : All (λ (r : BoundReport). r.bound ≤ r.error) l.reports.items;
      later : (g.H.Host.world l.initial.host).faults ≤ (g.H.Host.world l.host).faults;
      told : (files : Files) → (g.H.Host.world l.initial.host).files ≡ Some files
          → ((g.H.Host.world l.host).files ≡ Some files) × HasLists files (content_of l.manifest) l.image l.sources l.j l.reports.items (g.H.Host.world l.initial.host) (g.H.Host.world l.host);
    }
