use Rattle.std.proofs.Common.{◌≡◌, List, ℕ, ◌∙◌, subst}
use Rattle.std.proofs.lemmas.Result.{err_from_is_err_and}
use Rattle.adpcm_nums.specs.Outcome.{Gives}
use Rattle.command_faults.specs.declared.status.Status.TheVariants.{Memory}
use Rattle.command_plan.proofs.ReadOn.{fetched_first}
use Rattle.command_plan.specs.Front.{front_in}
use Rattle.tool_decompile.specs.Decompile.{entries_from, entries_in}
use Rattle.tool_decompile.proofs.DecompileSteps.{entries-refuses, keeps_read, reads_entries}
use Rattle.command_plan.proofs.Telling.{is_front}
use Rattle.tool_decompile.proofs.decompile.fetch_entries.Goals as goal

pub returns-in_err-front-clause-told : goal.returns-in_err-front-clause-told
returns-in_err-front-clause-told g c = λ files told.
    let p = err_from_is_err_and c.from_residual.result c.from_residual.ensures.1 in
    rw (p.1, p.2) (
    fetched_first c.args.file.now (entries_in files c.args.kind c.args.file.now)
    (g.H.Host.world c.args.host.now) (g.H.Host.world c.fetch_front.new.host) c.in_err-front.field-0.0 (c.in_err-front.ensures.told files told))

pub returns-clause-keeps : goal.returns-clause-keeps
returns-clause-keeps g c =
    keeps_read (λ v. v.items) (g.H.Host.world c.args.host.now) (g.H.Host.world c.fetch_front.new.host) c.args.file.now
    (entries_from c.args.kind c.args.file.now c.as_slice.result.now) c.entries_from.result
    (entries-refuses c.args.kind c.args.file.now c.as_slice.result.now) c.fetch_front.ensures.keeps.later c.entries_from.ensures.exact

pub returns-clause-told : goal.returns-clause-told
returns-clause-told g c = λ files told.
    let got = c.in_ok-front.ensures.told files told in
    let file = c.args.file.now in
    let front : c.as_slice.result.now ≡ front_in files file 8388608 = c.as_slice.ensures.value ∙ is_front files file c.in_ok-front.front.items 8388608 got.1 in
    reads_entries (λ v. v.items) file (entries_in files c.args.kind file) c.entries_from.result (g.H.Host.world c.args.host.now) (g.H.Host.world c.fetch_front.new.host)
    got.0 (entries-refuses c.args.kind file (front_in files file 8388608))
    (subst (λ (x : List ℕ). Gives Memory (λ v. v.items) c.entries_from.result (entries_from c.args.kind file x)) front c.entries_from.ensures.exact)
