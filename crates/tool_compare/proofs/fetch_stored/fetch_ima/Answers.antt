use Rattle.std.proofs.Common.{◌≡◌, ℕ, List, ap, subst, ◌∙◌}
use Rattle.std.specs.Result.{IfOk}
use Rattle.adpcm_nums.specs.Outcome.{Gives}
use Rattle.ima_machine.specs.Ima.{ima, samples_in}
use Rattle.manifest_reader.specs.Stored.{ima_name_of}
use Rattle.bank_kinds.specs.Kinds.{ima_codec}
use Rattle.bank_check.specs.declared.failure.StoredFailure.{StoredFailure}
use Rattle.bank_check.specs.Errors.{error_in, or_stored, IsStoredError}
use Rattle.bank_check.specs.Stored.{ima_list}
use Rattle.command_plan.specs.Reading.{fetched}
use Rattle.command_faults.specs.declared.status.Status.TheVariants.{Input, Memory}
use Rattle.command_plan.specs.Steps.{HasRead}
use Rattle.command_plan.specs.Front.{front_in, or_told}
use Rattle.command_plan.proofs.Telling.{is_front}
use Rattle.tool_compare.proofs.StoredReads.{own_reads}
use Rattle.tool_compare.proofs.fetch_stored.fetch_ima.Goals as goal

pub returns-clause-told : goal.returns-clause-told
returns-clause-told g c = λ files told.
    let got = c.in-Ok-fetch_front.ensures.told files told in
    let source = c.args.source.now in
    let name = ima_name_of c.args.bank.now source.name in
    let same : c.as_str-2.result.now ≡ name = c.as_str-2.ensures ∙ (c.in-Ok.ensures ∙ ap (ima_name_of c.args.bank.now) c.as_str.ensures) in
    let read = subst (λ (n : List ℕ). HasRead (fetched n) (g.H.Host.world c.args.host.now) (g.H.Host.world c.fetch_front.new.host)) same got.0 in
    let front : c.as_slice.result.now ≡ front_in files name 8388608 = c.as_slice.ensures.value ∙ is_front files c.as_str-2.result.now c.in-Ok-fetch_front.front.items 8388608 got.1 ∙ ap (λ (n : List ℕ). front_in files n 8388608) same in
    own_reads (ima_codec c.args.align) source.fitted name source.name (ima_list c.args.align source.fitted (front_in files name 8388608)) c.ima_error-answer.result c.or_failed.result (g.H.Host.world c.args.host.now) (g.H.Host.world c.fetch_front.new.host) read
    (subst (λ (bs : List ℕ). IfOk c.ima_error-answer.result (IsStoredError (ima_codec c.args.align) source.fitted (ima_list c.args.align source.fitted bs))) front c.ima_error-answer.ensures.stored) c.or_failed.ensures.same
    (subst (λ (n : List ℕ). Gives Memory (λ e. e) c.or_failed.result (or_told (λ f. Input n f) (error_in (ima (samples_in c.args.align)) source.fitted (ima_list c.args.align source.fitted (front_in files name 8388608))))) c.as_str-3.ensures
    (c.or_failed.ensures.value (error_in (ima (samples_in c.args.align)) source.fitted (ima_list c.args.align source.fitted (front_in files name 8388608)))
    (subst (λ (bs : List ℕ). Gives StoredFailure.NoMemory (λ e. e) c.ima_error-answer.result (or_stored (error_in (ima (samples_in c.args.align)) source.fitted (ima_list c.args.align source.fitted bs)))) front c.ima_error-answer.ensures.value)))
