use Rattle.std.proofs.Common.{subst, List, Ok}
use Rattle.decompile_core.specs.declared.recovered.Recovered.{Recovered}
use Rattle.command_plan.specs.Plan.{names_in}
use Rattle.command_plan.specs.Read.{written_under}
use Rattle.command_plan.proofs.Promised.{first_ends, first_short}
use Rattle.tool_decompile.specs.Decompile.{entries_read, IsDecompiled}
use Rattle.tool_decompile.specs.EntryFiles.{entry_files}
use Rattle.tool_decompile.proofs.DecompileSteps.{stores_entries}
use Rattle.tool_decompile.proofs.decompile.come_decompile.Goals as goal

pub returns-in-Err-clause-told : goal.returns-in-Err-clause-told
returns-in-Err-clause-told g c = λ files told.
    let read = entries_read files c.args.kind c.args.file.now in
    first_ends read (λ es. written_under (names_in (entry_files c.args.output.now 0 es))) (IsDecompiled read.gives c.args.output.now)
    (g.H.Host.world c.args.host.now) (g.H.Host.world c.fetch_entries.new.host) c.in-Err.status (c.in-Err.ensures.told files told)

pub returns-in-Ok-form_entries-clause-told : goal.returns-in-Ok-form_entries-clause-told
returns-in-Ok-form_entries-clause-told g c = λ files told.
    let got = c.in-Ok.ensures.told files told in
    stores_entries files c.args.kind c.args.file.now c.args.output.now c.in-Ok.entries.items c.in-Ok-form_entries.files.items c.as_slice-in-Ok-form_entries.result.now c.in-Ok-form_entries.lines c.as_str.result.now
    (g.H.Host.world c.args.host.now) (g.H.Host.world c.fetch_entries.new.host) (g.H.Host.world c.write_out.new.host) c.write_out.result
    c.as_slice-in-Ok-form_entries.ensures.value c.as_str.ensures got.0 got.1
    (subst (λ (es : List Recovered). IsDecompiled (Ok es) c.args.output.now c.in-Ok-form_entries.files.items c.in-Ok-form_entries.lines) c.as_slice.ensures.value c.in-Ok-form_entries.ensures)
    c.write_out.ensures.told

pub returns-clause-told : goal.returns-clause-told
returns-clause-told g c = λ files told.
    let read = entries_read files c.args.kind c.args.file.now in
    first_short read (λ es. written_under (names_in (entry_files c.args.output.now 0 es))) (IsDecompiled read.gives c.args.output.now)
    (g.H.Host.world c.args.host.now) (g.H.Host.world c.fetch_entries.new.host) (c.in-Ok.ensures.told files told).0
