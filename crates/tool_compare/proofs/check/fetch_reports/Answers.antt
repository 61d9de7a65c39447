use Rattle.std.proofs.Common.{◌∙◌}
use Rattle.manifest_reader.specs.Meaning.{content_of}
use Rattle.tool_compare.proofs.CheckedSteps.{image_halts, bank_reads}
use Rattle.tool_compare.proofs.check.fetch_reports.Goals as goal

pub returns-in-Ok-clause-told : goal.returns-in-Ok-clause-told
returns-in-Ok-clause-told g c = λ files told.
    let got = c.in-Ok.ensures.told files told in
    bank_reads (λ v. v.items) files (content_of c.args.manifest.now) c.args.sources.now c.in-Ok.image c.check_samples.result (g.H.Host.world c.args.host.now) (g.H.Host.world c.fetch_image.new.host) (g.H.Host.world c.check_samples.new.host)
    got.0 got.1 c.check_samples.ensures.count (c.check_samples.ensures.told files (got.0.quiet.files ∙ told))

pub returns-in-Err-clause-told : goal.returns-in-Err-clause-told
returns-in-Err-clause-told g c = λ files told.
    image_halts files (content_of c.args.manifest.now) c.args.sources.now (g.H.Host.world c.args.host.now) (g.H.Host.world c.fetch_image.new.host) c.in-Err.status (c.in-Err.ensures.told files told)
