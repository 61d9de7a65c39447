use Rattle.std.proofs.Common.{◌≡◌, ◌≤◌, Some, drop, length, All}
use Rattle.host_files.specs.Outside.{Files}
use Rattle.manifest_reader.specs.Meaning.{content_of}
use Rattle.report_text.specs.declared.report.SampleReport.{SampleReport}
use Rattle.command_plan.specs.Read.{read_all}
use Rattle.command_plan.proofs.ReadLoop.{GoesOn}
use Rattle.tool_compare.specs.Check.{sample_read}
use Rattle.tool_compare.specs.Checked.{AllChecked}
use Rattle.tool_compare.proofs.check_bank.check_samples.Given as goal

abbrev pub invariant-loop-j : goal.invariant-loop-j
invariant-loop-j g l = let m = content_of l.manifest in
    record {
      count : length l.reports.items ≡ l.j;
      bounds : All (λ (r : SampleReport). r.bound ≤ r.error) l.reports.items;
      later : (g.H.Host.world l.initial.host).faults ≤ (g.H.Host.world l.host).faults;
      told : (files : Files) → (g.H.Host.world l.initial.host).files ≡ Some files
          → ((g.H.Host.world l.host).files ≡ Some files) × GoesOn (read_all (sample_read files m l.image) 0 l.sources) (read_all (sample_read files m l.image) l.j (drop l.j l.sources)) l.reports.items (g.H.Host.world l.initial.host) (g.H.Host.world l.host)
          × AllChecked files m l.image l.sources l.reports.items;
    }
