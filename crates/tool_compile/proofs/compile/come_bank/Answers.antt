use Rattle.manifest_reader.specs.Meaning.{content_of}
use Rattle.command_plan.specs.Read.{written_under}
use Rattle.command_plan.proofs.Promised.{first_ends, first_short}
use Rattle.tool_files.specs.Sources.{sources_read}
use Rattle.tool_compile.specs.Compile.{bank_names, MayStore}
use Rattle.tool_compile.proofs.CompileSteps.{stored_bank}
use Rattle.tool_files.proofs.SourceSteps.{align_is}
use Rattle.tool_compile.proofs.compile.come_bank.Goals as goal

pub form_bank-requires-clause-block : goal.form_bank-requires-clause-block
form_bank-requires-clause-block g c = align_is c.args.manifest.now.block c.requires.ranges.block

pub returns-in-Err-clause-told : goal.returns-in-Err-clause-told
returns-in-Err-clause-told g c = λ files name told meaning.
    let m = content_of c.args.manifest.now in
    first_ends (sources_read files m) (λ ss. written_under (bank_names m)) (MayStore files name)
    (g.H.Host.world c.args.host.now) (g.H.Host.world c.fetch_sources.new.host) c.in-Err.status (c.in-Err.ensures.told files told)

pub returns-in-Err-form_bank-clause-told : goal.returns-in-Err-form_bank-clause-told
returns-in-Err-form_bank-clause-told g c = λ files name told meaning.
    let m = content_of c.args.manifest.now in
    first_short (sources_read files m) (λ ss. written_under (bank_names m)) (MayStore files name)
    (g.H.Host.world c.args.host.now) (g.H.Host.world c.fetch_sources.new.host) (c.in-Ok.ensures.told files told).0

pub returns-in-Ok-form_bank-clause-told : goal.returns-in-Ok-form_bank-clause-told
returns-in-Ok-form_bank-clause-told g c = λ files name told meaning.
    let got = c.in-Ok.ensures.told files told in
    stored_bank files name (content_of c.args.manifest.now) c.in-Ok.sources.items c.in-Ok-form_bank.files.items c.as_slice.result.now c.in-Ok-form_bank.line c.as_str.result.now
    (g.H.Host.world c.args.host.now) (g.H.Host.world c.fetch_sources.new.host) (g.H.Host.world c.write_out.new.host) c.write_out.result
    c.as_slice.ensures.value c.as_str.ensures meaning got.0 got.1 c.in-Ok-form_bank.ensures c.write_out.ensures.told
