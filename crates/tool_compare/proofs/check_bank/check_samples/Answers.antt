use Rattle.std.proofs.Common.{◌≤◌, refl, sym, subst, ◌∙◌, arith, List, length, All}
use Rattle.std.proofs.lemmas.Option.{slice_get_read}
use Rattle.std.proofs.lemmas.List.Elements.{All-push}
use Rattle.manifest_reader.specs.Meaning.{content_of}
use Rattle.report_text.specs.declared.report.SampleReport.{SampleReport}
use Rattle.command_plan.specs.Read.{read_all}
use Rattle.tool_compare.specs.Check.{sample_read}
use Rattle.tool_compare.specs.Checked.{IsChecked}
use Rattle.tool_files.proofs.SourceSteps.{count_more}
use Rattle.command_plan.proofs.ReadLoop.{goes_step, goes_halts, goes_short, goes_ended}
use Rattle.tool_files.proofs.Pairs.{all_more}
use Rattle.tool_compare.proofs.check_bank.check_samples.Goals as goal

pub returns-in-Err-push-clause-told : goal.returns-in-Err-push-clause-told
returns-in-Err-push-clause-told g c = λ files told.
    let m = content_of c.args.manifest.now in
    let f = sample_read files m c.args.image.now in
    let at = slice_get_read c.args.sources.now (length c.args.sources.now) c.loop-j.j c.index-sources-j.result refl c.loop-j-test.true c.index-sources-j.is in
    let before = c.loop-j.invariant.told files told in
    let got = c.in-Ok.ensures.told files before.0 in
    goes_short f c.args.sources.now c.loop-j.j c.index-sources-j.result (read_all f 0 c.args.sources.now) c.loop-j.reports.items (g.H.Host.world c.args.host.now) (g.H.Host.world c.loop-j.host) (g.H.Host.world c.check_sample.new.host) at before.1 got.0

pub returns-in-Err-clause-told : goal.returns-in-Err-clause-told
returns-in-Err-clause-told g c = λ files told.
    let m = content_of c.args.manifest.now in
    let f = sample_read files m c.args.image.now in
    let at = slice_get_read c.args.sources.now (length c.args.sources.now) c.loop-j.j c.index-sources-j.result refl c.loop-j-test.true c.index-sources-j.is in
    let before = c.loop-j.invariant.told files told in
    goes_halts f c.args.sources.now c.loop-j.j c.index-sources-j.result (read_all f 0 c.args.sources.now) c.loop-j.reports.items (g.H.Host.world c.args.host.now) (g.H.Host.world c.loop-j.host) (g.H.Host.world c.check_sample.new.host) c.in-Err.status
    at before.1 (c.in-Err.ensures.told files before.0)

pub loop-j-preserved : goal.loop-j-preserved
loop-j-preserved g c =
    let at = slice_get_read c.args.sources.now (length c.args.sources.now) c.loop-j.j c.index-sources-j.result refl c.loop-j-test.true c.index-sources-j.is in
    record {
      count = count_more c.loop-j.reports.items c.push.new.self.items c.loop-j.j c.in-Ok.report c.in-Ok-push.ensures.items c.loop-j.invariant.count;
      bounds = subst (λ (rs : List SampleReport). All (λ (r : SampleReport). r.bound ≤ r.error) rs) (sym c.in-Ok-push.ensures.items) (All-push (λ (r : SampleReport). r.bound ≤ r.error) c.loop-j.reports.items c.in-Ok.report c.loop-j.invariant.bounds c.in-Ok.ensures.bound);
      later = let x = c.loop-j.invariant.later in let y = c.check_sample.ensures.keeps.later in omega arith;
      told = λ files told.
          let m = content_of c.args.manifest.now in
          let f = sample_read files m c.args.image.now in
          let before = c.loop-j.invariant.told files told in
          let got = c.in-Ok.ensures.told files before.0 in (
            got.0.quiet.files ∙ before.0,
            goes_step f c.args.sources.now c.loop-j.j c.index-sources-j.result c.in-Ok.report (read_all f 0 c.args.sources.now) c.loop-j.reports.items c.push.new.self.items (g.H.Host.world c.args.host.now) (g.H.Host.world c.loop-j.host) (g.H.Host.world c.check_sample.new.host)
                at c.in-Ok-push.ensures.items before.1 got.0 got.1.0,
            all_more (IsChecked files m c.args.image.now) c.args.sources.now c.loop-j.reports.items c.push.new.self.items c.loop-j.j c.index-sources-j.result c.in-Ok.report at c.loop-j.invariant.count c.in-Ok-push.ensures.items before.2 got.1.1,
          );
    }

pub returns-clause-told : goal.returns-clause-told
returns-clause-told g c = λ files told.
    let m = content_of c.args.manifest.now in
    let f = sample_read files m c.args.image.now in
    let now = c.loop-j.invariant.told files told in
    let all = goes_ended f c.args.sources.now c.loop-j.j (read_all f 0 c.args.sources.now) c.loop-j.reports.items (g.H.Host.world c.args.host.now) (g.H.Host.world c.loop-j.host) (omega (arith, c.loop-j-test.false)) now.1 in
    (all.0, (all.1, now.2))
