use Rattle.std.proofs.Common.{◌∙◌}
use Rattle.manifest_reader.specs.Meaning.{content_of}
use Rattle.command_plan.proofs.Promised.{first_ends, then_reaches}
use Rattle.tool_files.specs.Sources.{manifest_read}
use Rattle.tool_compile.specs.Compile.{bank_course, MayStore}
use Rattle.tool_compile.proofs.compile.come_compile.Goals as goal

pub returns-in-Err-clause-told : goal.returns-in-Err-clause-told
returns-in-Err-clause-told g c = λ files told.
    first_ends (manifest_read files c.args.name.now) (bank_course files) (MayStore files c.args.name.now)
    (g.H.Host.world c.args.host.now) (g.H.Host.world c.fetch_manifest.new.host) c.in-Err.status (c.in-Err.ensures.told files told)

pub returns-in-Ok-clause-told : goal.returns-in-Ok-clause-told
returns-in-Ok-clause-told g c = λ files told.
    let got = c.in-Ok.ensures.told files told in
    then_reaches (manifest_read files c.args.name.now) (bank_course files) (content_of c.in-Ok.manifest) (MayStore files c.args.name.now)
    (g.H.Host.world c.args.host.now) (g.H.Host.world c.fetch_manifest.new.host) (g.H.Host.world c.come_bank.new.host) c.come_bank.result
    got.1 got.0 (c.come_bank.ensures.told files c.args.name.now (got.0.quiet.files ∙ told) got.1)
