use Rattle.std.proofs.Common.{◌≡◌, ◌∙◌, ap, subst, List, ℕ}
use Rattle.std.proofs.lemmas.Result.{err_from_is_err_and}
use Rattle.adpcm_nums.specs.Outcome.{Gives}
use Rattle.command_faults.specs.declared.status.Status.TheVariants.{Memory}
use Rattle.command_plan.specs.Read.{as_reading, fetched_for}
use Rattle.command_plan.specs.Reading.{fetched}
use Rattle.command_plan.specs.Steps.{HasRead, Halts}
use Rattle.command_plan.proofs.ReadOn.{fetched_first, fetched_reads}
use Rattle.command_plan.specs.Front.{front_in}
use Rattle.tool_files.specs.Source.{source_of}
use Rattle.command_plan.proofs.Telling.{is_front}
use Rattle.tool_files.proofs.SourceSteps.{source-declines}
use Rattle.tool_files.proofs.fetch_source.fetch_source.Goals as goal

pub returns-in_err-bytes-clause-told : goal.returns-in_err-bytes-clause-told
returns-in_err-bytes-clause-told g c = λ files told.
    let p = err_from_is_err_and c.from_residual.result c.from_residual.ensures.1 in
    let read = source_of c.args.rule c.args.entry.now (front_in files c.args.entry.now.file 4194304) in
    rw (p.1, p.2) (
    subst (λ (n : List ℕ). Halts (as_reading (fetched_for n read)) (g.H.Host.world c.args.host.now) (g.H.Host.world c.fetch_front.new.host) c.in_err-bytes.field-0.0) c.as_str.ensures
    (fetched_first c.as_str.result.now read (g.H.Host.world c.args.host.now) (g.H.Host.world c.fetch_front.new.host) c.in_err-bytes.field-0.0 (c.in_err-bytes.ensures.told files told)))

pub returns-clause-told : goal.returns-clause-told
returns-clause-told g c = λ files told.
    let got = c.in_ok-bytes.ensures.told files told in
    let same : c.as_str.result.now ≡ c.args.entry.now.file = c.as_str.ensures in
    let read = subst (λ (n : List ℕ). HasRead (fetched n) (g.H.Host.world c.args.host.now) (g.H.Host.world c.fetch_front.new.host)) same got.0 in
    let front : c.as_slice.result.now ≡ front_in files c.args.entry.now.file 4194304 = c.as_slice.ensures.value ∙ is_front files c.as_str.result.now c.in_ok-bytes.bytes.items 4194304 got.1 ∙ ap (λ (n : List ℕ). front_in files n 4194304) same in
    fetched_reads c.args.entry.now.file (λ s. s) c.read_source.result (source_of c.args.rule c.args.entry.now (front_in files c.args.entry.now.file 4194304)) (g.H.Host.world c.args.host.now) (g.H.Host.world c.fetch_front.new.host)
    read (source-declines c.args.rule c.args.entry.now _)
    (subst (λ (bs : List ℕ). Gives Memory (λ s. s) c.read_source.result (source_of c.args.rule c.args.entry.now bs)) front c.read_source.ensures.value)
