use Rattle.std.proofs.Common.{sym, ap, ◌∙◌}
use Rattle.machine_core.specs.declared.state.Kind.TheVariants.{Spu}
use Rattle.spu_machine.specs.Spu.{spu}
use Rattle.player_model.specs.SpuFormat.{spu_format}
use Rattle.player_model.specs.SpuLaws.{spu_stored}
use Rattle.bank_kinds.specs.Kinds.{spu_codec}
use Rattle.bank_check.specs.Errors.{spu_list, error_in}
use Rattle.bank_check.proofs.Shaped.{stored-if}
use Rattle.bank_check.proofs.Tracks.{IsSeen, spu-track, spu-list-is, spu-none, track-told, track-legal, track-room, track-range}
use Rattle.bank_check.proofs.flagged.spu_error.Goals as goal

pub flagged_error-requires-clause-within : goal.flagged_error-requires-clause-within
flagged_error-requires-clause-within c =
    let is = spu-track c.args.bytes.now c.in-Ok.track (sym c.in-Ok.ensures) in
    track-room spu spu_format c.args.bytes.now 0 c.in-Ok.track c.blocks-in-Ok.result is c.blocks-in-Ok.ensures.value

pub flagged_error-requires-clause-in_range : goal.flagged_error-requires-clause-in_range
flagged_error-requires-clause-in_range c =
    let is = spu-track c.args.bytes.now c.in-Ok.track (sym c.in-Ok.ensures) in
    track-range spu spu_format c.args.bytes.now 0 c.in-Ok.track c.blocks-in-Ok.result spu_stored (λ i. (c.type_inv.bytes i).fits) is c.blocks-in-Ok.ensures.value

pub returns-in-Ok-clause-value : goal.returns-in-Ok-clause-value
returns-in-Ok-clause-value c =
    let is = spu-track c.args.bytes.now c.in-Ok.track (sym c.in-Ok.ensures) in
    let seen : IsSeen spu_format c.args.bytes.now 0 c.blocks-in-Ok.result c.loop_block-looped.result c.in-Ok.track =
    record { memory_is = is.memory_is; start_is = is.start_is; blocks_are = c.blocks-in-Ok.ensures.value; loop_is = c.loop_block-looped.ensures.value } in
    c.flagged_error.ensures ∙ (track-told Spu spu spu_format c.args.fitted.now c.args.bytes.now 0 c.blocks-in-Ok.result c.loop_block-looped.result c.in-Ok.track seen
    ∙ ap (error_in spu c.args.fitted.now) (sym (spu-list-is c.args.bytes.now c.args.fitted.now c.in-Ok.track (sym c.in-Ok.ensures))))

pub returns-in-Ok-clause-stored : goal.returns-in-Ok-clause-stored
returns-in-Ok-clause-stored c =
    let is = spu-track c.args.bytes.now c.in-Ok.track (sym c.in-Ok.ensures) in
    let seen : IsSeen spu_format c.args.bytes.now 0 c.blocks-in-Ok.result c.loop_block-looped.result c.in-Ok.track =
    record { memory_is = is.memory_is; start_is = is.start_is; blocks_are = c.blocks-in-Ok.ensures.value; loop_is = c.loop_block-looped.ensures.value } in
    let listed = spu-list-is c.args.bytes.now c.args.fitted.now c.in-Ok.track (sym c.in-Ok.ensures) in
    stored-if spu_codec c.args.fitted.now (spu_list c.args.bytes.now c.args.fitted.now) c.flagged_error.result
    (c.flagged_error.ensures ∙ (track-told Spu spu spu_format c.args.fitted.now c.args.bytes.now 0 c.blocks-in-Ok.result c.loop_block-looped.result c.in-Ok.track seen ∙ ap (error_in spu c.args.fitted.now) (sym listed)))
    (λ list e. track-legal Spu spu spu_format c.args.fitted.now c.args.bytes.now 0 c.in-Ok.track list spu_stored (λ i. (c.type_inv.bytes i).fits) is (sym listed ∙ e))

pub returns-in-Err-clause-value : goal.returns-in-Err-clause-value
returns-in-Err-clause-value c = spu-none c.args.bytes.now c.args.fitted.now c.in-Err.fault c.in-Err.ensures
