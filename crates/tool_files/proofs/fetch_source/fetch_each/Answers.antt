use Rattle.std.proofs.Common.{refl, sym, subst, ◌∙◌, ap, arith, List, length, map, All}
use Rattle.std.proofs.lemmas.Result.{err_from_is_err_and}
use Rattle.std.proofs.lemmas.Option.{slice_get_read}
use Rattle.std.proofs.lemmas.List.Elements.{All-push}
use Rattle.manifest_reader.specs.declared.manifest.SampleEntry.{SampleEntry}
use Rattle.command_plan.proofs.ReadLoop.{goes_first, goes_step, goes_halts, goes_short, goes_ended}
use Rattle.tool_files.specs.declared.source.Source.{Source}
use Rattle.tool_files.specs.Sources.{source_read, each_read}
use Rattle.tool_files.proofs.SourceSteps.{count_more, alike_more}
use Rattle.tool_files.specs.Ready.{IsReadyBy}
use Rattle.tool_files.proofs.fetch_source.fetch_each.Goals as goal

pub loop-entry-init : goal.loop-entry-init
loop-entry-init g c = record {
  count = ap length c.new-sources.ensures.items;
  named = ap (map (λ (s : Source). s.name)) c.new-sources.ensures.items;
  ready = subst (λ (ss : List Source). All (IsReadyBy c.args.rule) ss) (sym c.new-sources.ensures.items) (λ k d h. absurd (omega (arith, h)));
  later = omega arith;
  told = λ files told. (told, goes_first (each_read files c.args.rule c.args.entries.now) c.new-sources.result.items (g.H.Host.world c.args.host.now) c.new-sources.ensures.items);
}

pub returns-in_err-source-clause-told : goal.returns-in_err-source-clause-told
returns-in_err-source-clause-told g c = λ files told.
    let p = err_from_is_err_and c.from_residual.result c.from_residual.ensures.1 in
    let at = slice_get_read c.args.entries.now _ c.loop-entry.entry-index c.entry-item.result refl (omega arith) c.entry-item.is in
    let before = c.loop-entry.invariant.told files told in
    rw (p.1, p.2) (
    goes_halts (λ j e. source_read files c.args.rule e) c.args.entries.now c.loop-entry.entry-index c.entry-item.result (each_read files c.args.rule c.args.entries.now) c.loop-entry.sources.items
    (g.H.Host.world c.args.host.now) (g.H.Host.world c.loop-entry.host) (g.H.Host.world c.fetch_source.new.host) _ at before.1 (c.in_err-source.ensures.told files before.0))

pub returns-in-Err-clause-told : goal.returns-in-Err-clause-told
returns-in-Err-clause-told g c = λ files told.
    let at = slice_get_read c.args.entries.now _ c.loop-entry.entry-index c.entry-item.result refl (omega arith) c.entry-item.is in
    let before = c.loop-entry.invariant.told files told in
    let got = c.in_ok-source.ensures.told files before.0 in
    goes_short (λ j e. source_read files c.args.rule e) c.args.entries.now c.loop-entry.entry-index c.entry-item.result (each_read files c.args.rule c.args.entries.now) c.loop-entry.sources.items
    (g.H.Host.world c.args.host.now) (g.H.Host.world c.loop-entry.host) (g.H.Host.world c.fetch_source.new.host) at before.1 got.0

pub loop-entry-preserved : goal.loop-entry-preserved
loop-entry-preserved g c =
    let at = slice_get_read c.args.entries.now _ c.loop-entry.entry-index c.entry-item.result refl (omega arith) c.entry-item.is in
    record {
      count = count_more c.loop-entry.sources.items c.push.new.self.items c.loop-entry.entry-index c.in_ok-source.source c.in-Ok.ensures.items c.loop-entry.invariant.count;
      named = alike_more (λ (s : Source). s.name) (λ (e : SampleEntry). e.name) c.args.entries.now c.loop-entry.sources.items c.push.new.self.items c.loop-entry.entry-index c.entry-item.result c.in_ok-source.source at c.in-Ok.ensures.items c.loop-entry.invariant.named c.in_ok-source.ensures.named;
      ready = subst (λ (ss : List Source). All (IsReadyBy c.args.rule) ss) (sym c.in-Ok.ensures.items) (All-push (IsReadyBy c.args.rule) c.loop-entry.sources.items c.in_ok-source.source c.loop-entry.invariant.ready c.in_ok-source.ensures.ready);
      later = let x = c.loop-entry.invariant.later in let y = c.fetch_source.ensures.keeps.later in omega arith;
      told = λ files told.
          let before = c.loop-entry.invariant.told files told in
          let got = c.in_ok-source.ensures.told files before.0 in (
            got.0.quiet.files ∙ before.0,
            goes_step (λ j e. source_read files c.args.rule e) c.args.entries.now c.loop-entry.entry-index c.entry-item.result c.in_ok-source.source (each_read files c.args.rule c.args.entries.now) c.loop-entry.sources.items c.push.new.self.items
                (g.H.Host.world c.args.host.now) (g.H.Host.world c.loop-entry.host) (g.H.Host.world c.fetch_source.new.host) at c.in-Ok.ensures.items before.1 got.0 got.1,
          );
    }

pub returns-clause-told : goal.returns-clause-told
returns-clause-told g c = λ files told.
    let now = c.loop-entry.invariant.told files told in
    goes_ended (λ j e. source_read files c.args.rule e) c.args.entries.now c.loop-entry.entry-index (each_read files c.args.rule c.args.entries.now) c.loop-entry.sources.items (g.H.Host.world c.args.host.now) (g.H.Host.world c.loop-entry.host) (omega arith) now.1
