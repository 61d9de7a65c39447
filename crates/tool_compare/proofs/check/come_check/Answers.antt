use Rattle.std.proofs.Common.{◌∙◌}
use Rattle.manifest_reader.specs.Meaning.{content_of}
use Rattle.command_plan.proofs.Promised.{first_ends, then_reaches}
use Rattle.tool_files.specs.Sources.{manifest_read}
use Rattle.tool_compare.specs.Compared.{compared}
use Rattle.tool_compare.specs.Check.{bank_read}
use Rattle.tool_compare.specs.Checked.{MayTell}
use Rattle.tool_compare.proofs.check.come_check.Goals as goal

pub returns-in-Err-clause-told : goal.returns-in-Err-clause-told
returns-in-Err-clause-told g c = λ files told.
    first_ends (manifest_read files c.args.name.now) (compared bank_read files) (MayTell files c.args.name.now)
    (g.H.Host.world c.args.host.now) (g.H.Host.world c.fetch_manifest.new.host) c.in-Err.status (c.in-Err.ensures.told files told)

pub returns-in-Ok-clause-told : goal.returns-in-Ok-clause-told
returns-in-Ok-clause-told g c = λ files told.
    let got = c.in-Ok.ensures.told files told in
    then_reaches (manifest_read files c.args.name.now) (compared bank_read files) (content_of c.in-Ok.manifest) (MayTell files c.args.name.now)
    (g.H.Host.world c.args.host.now) (g.H.Host.world c.fetch_manifest.new.host) (g.H.Host.world c.come_stored.new.host) c.come_stored.result
    got.1 got.0 (c.come_stored.ensures.told files c.args.name.now (got.0.quiet.files ∙ told) got.1)
