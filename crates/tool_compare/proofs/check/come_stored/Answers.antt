use Rattle.std.proofs.Common.{◌∙◌, sym, ap, List, Ok, refl}
use Rattle.manifest_reader.specs.Meaning.{content_of}
use Rattle.report_text.specs.declared.report.SampleReport.{SampleReport}
use Rattle.command_plan.proofs.Promised.{first_ends}
use Rattle.tool_files.specs.declared.source.Source.{Source}
use Rattle.tool_files.specs.Sources.{sources_read}
use Rattle.tool_compare.proofs.ComparedSteps.{stored_for, stored_refused, report_told}
use Rattle.tool_compare.specs.Check.{bank_read, check_text}
use Rattle.tool_compare.specs.Checked.{IsCheck, MayTell}
use Rattle.tool_compare.proofs.check.come_stored.Goals as goal

pub returns-in-Err-clause-told : goal.returns-in-Err-clause-told
returns-in-Err-clause-told g c = λ files name told meaning.
    let m = content_of c.args.manifest.now in
    first_ends (sources_read files m) (stored_for bank_read files m) (MayTell files name) (g.H.Host.world c.args.host.now) (g.H.Host.world c.fetch_sources.new.host) c.in-Err.status (c.in-Err.ensures.told files told)

pub returns-clause-told : goal.returns-clause-told
returns-clause-told g c = λ files name told meaning.
    let got = c.in-Ok.ensures.told files told in
    stored_refused bank_read (MayTell files name) files (content_of c.args.manifest.now) c.as_slice.result.now (g.H.Host.world c.args.host.now) (g.H.Host.world c.fetch_sources.new.host) (g.H.Host.world c.fetch_reports.new.host) c.in-Err-fetch_reports.status
    (record { read = got.0; gives = got.1 ∙ ap (λ (xs : List Source). Ok xs) (sym c.as_slice.ensures.value) }) (c.in-Err-fetch_reports.ensures.told files (got.0.quiet.files ∙ told))

pub returns-in-Ok-fetch_reports-clause-told : goal.returns-in-Ok-fetch_reports-clause-told
returns-in-Ok-fetch_reports-clause-told g c = λ files name told meaning.
    let m = content_of c.args.manifest.now in
    let sources = c.as_slice.result.now in
    let reports = c.in-Ok-fetch_reports.reports.items in
    let got = c.in-Ok.ensures.told files told in
    let and = c.in-Ok-fetch_reports.ensures.told files (got.0.quiet.files ∙ told) in
    report_told bank_read (IsCheck files) files name m sources reports (check_text reports) (check_text c.as_slice-in-Ok-fetch_reports.result.now)
    (g.H.Host.world c.args.host.now) (g.H.Host.world c.fetch_sources.new.host) (g.H.Host.world c.fetch_reports.new.host) (g.H.Host.world c.say_report.new.host) c.say_report.result
    (ap (λ (xs : List SampleReport). check_text xs) c.as_slice-in-Ok-fetch_reports.ensures.value) meaning (record { read = got.0; gives = got.1 ∙ ap (λ (xs : List Source). Ok xs) (sym c.as_slice.ensures.value) }) and.0 and.1.read
    (record { reports = reports; reported = and.1; told = refl }) c.say_report.ensures.told
