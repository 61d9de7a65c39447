use Rattle.std.proofs.Common.{◌≤◌, refl, sym, ap, subst, ◌∙◌, arith, List, length, All}
use Rattle.std.proofs.lemmas.Option.{slice_get_read}
use Rattle.std.proofs.lemmas.List.Elements.{All-push}
use Rattle.manifest_reader.specs.Meaning.{content_of}
use Rattle.report_text.specs.declared.report.BoundReport.{BoundReport}
use Rattle.tool_files.proofs.SourceSteps.{count_more}
use Rattle.tool_compare.proofs.BoundSteps.{lists_first, lists_more, lists_halt, lists_short, lists_ended}
use Rattle.tool_compare.proofs.bound_bank.bound_samples.Goals as goal

pub returns-in-Err-push-clause-told : goal.returns-in-Err-push-clause-told
returns-in-Err-push-clause-told g c = λ files told.
    let at = slice_get_read c.args.sources.now (length c.args.sources.now) c.loop-j.j c.index-sources-j.result refl c.loop-j-test.true c.index-sources-j.is in
    let before = c.loop-j.invariant.told files told in
    let got = c.in-Ok.ensures.told files before.0 in
    lists_short files (content_of c.args.manifest.now) c.args.image.now c.args.sources.now c.loop-j.j c.loop-j.reports.items c.index-sources-j.result
    (g.H.Host.world c.args.host.now) (g.H.Host.world c.loop-j.host) (g.H.Host.world c.bound_sample.new.host) at before.1 got.0

pub returns-in-Err-clause-told : goal.returns-in-Err-clause-told
returns-in-Err-clause-told g c = λ files told.
    let at = slice_get_read c.args.sources.now (length c.args.sources.now) c.loop-j.j c.index-sources-j.result refl c.loop-j-test.true c.index-sources-j.is in
    let before = c.loop-j.invariant.told files told in
    lists_halt files (content_of c.args.manifest.now) c.args.image.now c.args.sources.now c.loop-j.j c.loop-j.reports.items c.index-sources-j.result
    (g.H.Host.world c.args.host.now) (g.H.Host.world c.loop-j.host) (g.H.Host.world c.bound_sample.new.host) c.in-Err.status at before.1 (c.in-Err.ensures.told files before.0)

pub loop-j-init : goal.loop-j-init
loop-j-init g c = record {
  count = ap length c.new-reports.ensures.items;
  bounds = subst (λ (rs : List BoundReport). All (λ (r : BoundReport). r.bound ≤ r.error) rs) (sym c.new-reports.ensures.items) (λ k z h. absurd (omega (arith, h)));
  later = omega arith;
  told = λ files told. (told, lists_first files (content_of c.args.manifest.now) c.args.image.now c.args.sources.now c.new-reports.result.items (g.H.Host.world c.args.host.now) (ap length c.new-reports.ensures.items));
}

pub loop-j-preserved : goal.loop-j-preserved
loop-j-preserved g c =
    let at = slice_get_read c.args.sources.now (length c.args.sources.now) c.loop-j.j c.index-sources-j.result refl c.loop-j-test.true c.index-sources-j.is in
    record {
      count = count_more c.loop-j.reports.items c.push.new.self.items c.loop-j.j c.in-Ok.report c.in-Ok-push.ensures.items c.loop-j.invariant.count;
      bounds = subst (λ (rs : List BoundReport). All (λ (r : BoundReport). r.bound ≤ r.error) rs) (sym c.in-Ok-push.ensures.items) (All-push (λ (r : BoundReport). r.bound ≤ r.error) c.loop-j.reports.items c.in-Ok.report c.loop-j.invariant.bounds c.in-Ok.ensures.bound);
      later = let x = c.loop-j.invariant.later in let y = c.bound_sample.ensures.keeps.later in omega arith;
      told = λ files told.
          let before = c.loop-j.invariant.told files told in
          let got = c.in-Ok.ensures.told files before.0 in (
            got.0.quiet.files ∙ before.0,
            lists_more files (content_of c.args.manifest.now) c.args.image.now c.args.sources.now c.loop-j.j c.loop-j.reports.items c.push.new.self.items c.index-sources-j.result c.in-Ok.report
                (g.H.Host.world c.args.host.now) (g.H.Host.world c.loop-j.host) (g.H.Host.world c.bound_sample.new.host) at c.loop-j.invariant.count c.in-Ok-push.ensures.items before.1 got.0 got.1,
          );
    }

pub returns-clause-told : goal.returns-clause-told
returns-clause-told g c = λ files told.
    let now = c.loop-j.invariant.told files told in
    let count = c.loop-j.invariant.count in
    lists_ended files (content_of c.args.manifest.now) c.args.image.now c.args.sources.now c.loop-j.j c.loop-j.reports.items (g.H.Host.world c.args.host.now) (g.H.Host.world c.loop-j.host)
    (omega (arith, c.loop-j-test.false)) (omega (arith, c.loop-j-test.false, count)) now.1
