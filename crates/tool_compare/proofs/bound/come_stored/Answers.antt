use Rattle.std.proofs.Common.{◌∙◌, sym, ap, List, Ok, refl}
use Rattle.manifest_reader.specs.Meaning.{content_of}
use Rattle.report_text.specs.declared.report.BoundReport.{BoundReport}
use Rattle.command_plan.proofs.Promised.{first_ends}
use Rattle.tool_files.specs.declared.source.Source.{Source}
use Rattle.tool_files.specs.Sources.{sources_read}
use Rattle.tool_compare.proofs.ComparedSteps.{stored_for, stored_refused, report_told}
use Rattle.tool_compare.specs.Bound.{lists_read, bound_text}
use Rattle.tool_compare.specs.Bounded.{IsSaid, MayBound}
use Rattle.tool_compare.proofs.BoundedSteps.{lists_are}
use Rattle.tool_compare.proofs.bound.come_stored.Goals as goal

pub returns-in-Err-clause-told : goal.returns-in-Err-clause-told
returns-in-Err-clause-told g c = λ files name told meaning.
    let m = content_of c.args.manifest.now in
    first_ends (sources_read files m) (stored_for lists_read files m) (MayBound files name) (g.H.Host.world c.args.host.now) (g.H.Host.world c.fetch_sources.new.host) c.in-Err.status (c.in-Err.ensures.told files told)

pub returns-clause-told : goal.returns-clause-told
returns-clause-told g c = λ files name told meaning.
    let got = c.in-Ok.ensures.told files told in
    stored_refused lists_read (MayBound files name) files (content_of c.args.manifest.now) c.as_slice.result.now (g.H.Host.world c.args.host.now) (g.H.Host.world c.fetch_sources.new.host) (g.H.Host.world c.fetch_bounds.new.host) c.in-Err-fetch_bounds.status
    (record { read = got.0; gives = got.1 ∙ ap (λ (xs : List Source). Ok xs) (sym c.as_slice.ensures.value) }) (c.in-Err-fetch_bounds.ensures.told files (got.0.quiet.files ∙ told))

pub returns-in-Ok-fetch_bounds-clause-told : goal.returns-in-Ok-fetch_bounds-clause-told
returns-in-Ok-fetch_bounds-clause-told g c = λ files name told meaning.
    let m = content_of c.args.manifest.now in
    let sources = c.as_slice.result.now in
    let reports = c.in-Ok-fetch_bounds.reports.items in
    let got = c.in-Ok.ensures.told files told in
    let and = c.in-Ok-fetch_bounds.ensures.told files (got.0.quiet.files ∙ told) in
    report_told lists_read (IsSaid files) files name m sources and.1.samples.lists (bound_text reports) (bound_text c.as_slice-in-Ok-fetch_bounds.result.now)
    (g.H.Host.world c.args.host.now) (g.H.Host.world c.fetch_sources.new.host) (g.H.Host.world c.fetch_bounds.new.host) (g.H.Host.world c.say_report.new.host) c.say_report.result
    (ap (λ (xs : List BoundReport). bound_text xs) c.as_slice-in-Ok-fetch_bounds.ensures.value) meaning (record { read = got.0; gives = got.1 ∙ ap (λ (xs : List Source). Ok xs) (sym c.as_slice.ensures.value) }) and.0 (lists_are files m sources reports and.1)
    (record { reports = reports; reported = and.1; told = refl }) c.say_report.ensures.told
