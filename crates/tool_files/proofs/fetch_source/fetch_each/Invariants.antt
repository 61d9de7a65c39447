use Rattle.std.proofs.Common.{◌≡◌, ◌≤◌, Some, take, drop, length, map, All}
use Rattle.manifest_reader.specs.declared.manifest.SampleEntry.{SampleEntry}
use Rattle.tool_files.specs.declared.source.Source.{Source}
use Rattle.host_files.specs.Outside.{Files}
use Rattle.command_plan.specs.Read.{read_all}
use Rattle.command_plan.proofs.ReadLoop.{GoesOn}
use Rattle.tool_files.specs.Sources.{source_read, each_read}
use Rattle.tool_files.specs.Ready.{IsReadyBy}
use Rattle.tool_files.proofs.fetch_source.fetch_each.Given as goal

abbrev pub invariant-loop-entry : goal.invariant-loop-entry
invariant-loop-entry g l = record {
  count : length l.sources.items ≡ l.entry-index;
  named : map (λ (s : Source). s.name) l.sources.items ≡ map (λ (e : SampleEntry). e.name) (take l.entry-index l.entries);
  ready : All (IsReadyBy l.rule) l.sources.items;
  later : (g.H.Host.world l.initial.host).faults ≤ (g.H.Host.world l.host).faults;
  told : (files : Files) → (g.H.Host.world l.initial.host).files ≡ Some files → ((g.H.Host.world l.host).files ≡ Some files)
      × GoesOn (each_read files l.rule l.entries) (read_all (λ j e. source_read files l.rule e) l.entry-index (drop l.entry-index l.entries)) l.sources.items (g.H.Host.world l.initial.host) (g.H.Host.world l.host);
}
