use Rattle.std.proofs.Common.{ℕ, List, sym, subst}
use Rattle.adpcm_nums.specs.Outcome.{Gives}
use Rattle.machine_core.specs.declared.state.Kind.{Kind}
use Rattle.bank_kinds.specs.Kinds.{brr_codec, codec_for}
use Rattle.manifest_reader.specs.Meaning.{content_of}
use Rattle.bank_check.specs.Errors.{IsStoredError}
use Rattle.command_plan.specs.Read.{as_reading}
use Rattle.command_plan.specs.Steps.{ReadsTo}
use Rattle.tool_compare.specs.Banks.{own_calls, stored_by}
use Rattle.bank_check.specs.Stored.{image_list}
use Rattle.command_faults.specs.declared.status.Status.TheVariants.{Input, Memory}
use Rattle.command_plan.specs.Front.{or_told}
use Rattle.tool_compare.proofs.StoredReads.{entry_reads}
use Rattle.tool_compare.proofs.fetch_stored.fetch_error.Goals as goal

pub returns-in-Brr-clause-told : goal.returns-in-Brr-clause-told
returns-in-Brr-clause-told g c = λ files told.
    let source = c.args.source.now in
    let read = entry_reads brr_codec source.fitted source.name (image_list c.args.image.now c.args.j source.fitted) c.image_error-answer.result c.or_refused.result (g.H.Host.world c.args.host.now)
    c.image_error-answer.ensures.value c.image_error-answer.ensures.stored c.or_refused.ensures.same
    (subst (λ (n : List ℕ). Gives Memory (λ e. e) c.or_refused.result (or_told (λ f. Input n f) c.image_error-answer.result)) c.as_str.ensures c.or_refused.ensures.value) in
    let m = content_of c.args.manifest.now in
    subst (λ (k : Kind). ReadsTo (as_reading (record { calls = own_calls k m source; gives = or_told (λ f. Input source.name f) (stored_by k files m c.args.image.now c.args.j source) }))
    (g.H.Host.world c.args.host.now) (g.H.Host.world c.args.host.now) c.or_refused.result (IsStoredError (codec_for k m.block) source.fitted (stored_by k files m c.args.image.now c.args.j source))) (sym c.in-Brr.is) read
