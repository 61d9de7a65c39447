use Rattle.std.proofs.Common.{sym, ap, ◌∙◌}
use Rattle.machine_core.specs.declared.state.Kind.TheVariants.{Brr}
use Rattle.brr_machine.specs.Brr.{brr}
use Rattle.player_model.specs.BrrFormat.{brr_format}
use Rattle.player_model.specs.BrrLaws.{brr_stored}
use Rattle.bank_kinds.specs.Kinds.{brr_codec}
use Rattle.bank_check.specs.Errors.{brr_list, error_in}
use Rattle.bank_check.proofs.Shaped.{stored-if}
use Rattle.bank_check.proofs.Tracks.{IsSeen, brr-track, brr-list-is, brr-none, track-told, track-legal, track-room, track-range}
use Rattle.bank_check.proofs.flagged.brr_error.Goals as goal

pub flagged_error-requires-clause-within : goal.flagged_error-requires-clause-within
flagged_error-requires-clause-within c =
    let is = brr-track c.args.memory.now c.args.start c.args.again c.in-Ok.track (λ i. (c.type_inv.memory i).fits) (sym c.in-Ok.ensures) in
    track-room brr brr_format c.args.memory.now c.args.start c.in-Ok.track c.blocks-in-Ok.result is c.blocks-in-Ok.ensures.value

pub flagged_error-requires-clause-in_range : goal.flagged_error-requires-clause-in_range
flagged_error-requires-clause-in_range c =
    let is = brr-track c.args.memory.now c.args.start c.args.again c.in-Ok.track (λ i. (c.type_inv.memory i).fits) (sym c.in-Ok.ensures) in
    track-range brr brr_format c.args.memory.now c.args.start c.in-Ok.track c.blocks-in-Ok.result brr_stored (λ i. (c.type_inv.memory i).fits) is c.blocks-in-Ok.ensures.value

pub returns-in-Ok-clause-value : goal.returns-in-Ok-clause-value
returns-in-Ok-clause-value c =
    let is = brr-track c.args.memory.now c.args.start c.args.again c.in-Ok.track (λ i. (c.type_inv.memory i).fits) (sym c.in-Ok.ensures) in
    let seen : IsSeen brr_format c.args.memory.now c.args.start c.blocks-in-Ok.result c.loop_block-looped.result c.in-Ok.track =
    record { memory_is = is.memory_is; start_is = is.start_is; blocks_are = c.blocks-in-Ok.ensures.value; loop_is = c.loop_block-looped.ensures.value } in
    c.flagged_error.ensures ∙ (track-told Brr brr brr_format c.args.fitted.now c.args.memory.now c.args.start c.blocks-in-Ok.result c.loop_block-looped.result c.in-Ok.track seen
    ∙ ap (error_in brr c.args.fitted.now) (sym (brr-list-is c.args.memory.now c.args.start c.args.again c.args.fitted.now c.in-Ok.track (sym c.in-Ok.ensures))))

pub returns-in-Ok-clause-stored : goal.returns-in-Ok-clause-stored
returns-in-Ok-clause-stored c =
    let is = brr-track c.args.memory.now c.args.start c.args.again c.in-Ok.track (λ i. (c.type_inv.memory i).fits) (sym c.in-Ok.ensures) in
    let seen : IsSeen brr_format c.args.memory.now c.args.start c.blocks-in-Ok.result c.loop_block-looped.result c.in-Ok.track =
    record { memory_is = is.memory_is; start_is = is.start_is; blocks_are = c.blocks-in-Ok.ensures.value; loop_is = c.loop_block-looped.ensures.value } in
    let listed = brr-list-is c.args.memory.now c.args.start c.args.again c.args.fitted.now c.in-Ok.track (sym c.in-Ok.ensures) in
    stored-if brr_codec c.args.fitted.now (brr_list c.args.memory.now c.args.start c.args.again c.args.fitted.now) c.flagged_error.result
    (c.flagged_error.ensures ∙ (track-told Brr brr brr_format c.args.fitted.now c.args.memory.now c.args.start c.blocks-in-Ok.result c.loop_block-looped.result c.in-Ok.track seen ∙ ap (error_in brr c.args.fitted.now) (sym listed)))
    (λ list e. track-legal Brr brr brr_format c.args.fitted.now c.args.memory.now c.args.start c.in-Ok.track list brr_stored (λ i. (c.type_inv.memory i).fits) is (sym listed ∙ e))

pub returns-in-Err-clause-value : goal.returns-in-Err-clause-value
returns-in-Err-clause-value c = brr-none c.args.memory.now c.args.start c.args.again c.args.fitted.now c.in-Err.fault c.in-Err.ensures
