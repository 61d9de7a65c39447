use Rattle.std.proofs.Common.{ℕ, ◌*◌, ◌/◌, ℤ, List, length, sym, ap, ◌∙◌, subst}
use Rattle.std.specs.Prelude.{Ok}
use Rattle.machine_core.specs.Blocks.{Blocks, IsInRange}
use Rattle.machine_core.specs.Sums.{sum_of}
use Rattle.ima_machine.specs.Ima.{ima, samples_in}
use Rattle.player_model.specs.ImaFormat.{ima_format}
use Rattle.player_model.specs.ImaTrack.{list_of}
use Rattle.player_model.specs.Stored.{blocks_in}
use Rattle.bank_kinds.specs.Replay.{sound_of}
use Rattle.bank_check.specs.Shape.{framed_shape}
use Rattle.bank_check.specs.Errors.{error_in}
use Rattle.bank_check.proofs.Frames.{framed-ok, frames-room, frames-range, frames-obey, file-list, framed-list-is}
use Rattle.bank_check.proofs.framed.framed_error.Goals as goal

pub stored_error-requires-clause-within : goal.stored_error-requires-clause-within
stored_error-requires-clause-within c =
    let is = framed-ok c.args.align c.args.fitted.now c.args.file.now _ tt (sym c.in-Ok.ensures) in
    frames-room c.args.align c.args.file.now.align (length c.args.bytes.now) is.align_is

pub stored_error-requires-clause-in_range : goal.stored_error-requires-clause-in_range
stored_error-requires-clause-in_range c =
    let is = framed-ok c.args.align c.args.fitted.now c.args.file.now _ tt (sym c.in-Ok.ensures) in
    frames-range c.args.align c.args.file.now c.args.bytes.now c.requires.align c.requires.file c.requires.blocks is.align_is (λ i. (c.type_inv.bytes i).fits)

pub stored_error-requires-clause-count : goal.stored_error-requires-clause-count
stored_error-requires-clause-count c =
    let is = framed-ok c.args.align c.args.fitted.now c.args.file.now _ tt (sym c.in-Ok.ensures) in
    ap (λ (z : List ℤ). length z) c.as_slice-targets.ensures.list ∙ (c.requires.whole.count ∙ ap (λ (n : ℕ). n * samples_in c.args.align) (sym is.blocks_are))

pub returns-in-Ok-clause-value : goal.returns-in-Ok-clause-value
returns-in-Ok-clause-value c =
    let d = ima (samples_in c.args.align) in
    let file = c.args.file.now in
    let fitted = c.args.fitted.now in
    let bytes = c.args.bytes.now in
    let count = length bytes / file.align in
    let mine = blocks_in d (ima_format c.args.align) bytes 0 count in
    let is = framed-ok c.args.align fitted file _ tt (sym c.in-Ok.ensures) in
    let shape = ap (λ (z : List ℕ). framed_shape c.args.align fitted file.align (length z / file.align) file.frames file.at) (sym c.requires.blocks) ∙ sym c.in-Ok.ensures in
    ap (λ (n : ℕ). Ok n) (c.stored_error.ensures ∙ (ap (λ (z : List ℤ). sum_of d mine z count) c.as_slice-targets.ensures.list
    ∙ (ap (λ (n : ℕ). sum_of d mine fitted.targets n) is.blocks_are ∙ ap (λ (z : Blocks). sum_of d z fitted.targets fitted.blocks) (file-list c.args.align file bytes c.requires.blocks is.align_is))))
    ∙ ap (error_in d fitted) (sym (framed-list-is c.args.align file fitted tt shape))

pub returns-in-Ok-clause-stored : goal.returns-in-Ok-clause-stored
returns-in-Ok-clause-stored c =
    let d = ima (samples_in c.args.align) in
    let file = c.args.file.now in
    let fitted = c.args.fitted.now in
    let bytes = c.args.bytes.now in
    let count = length bytes / file.align in
    let mine = blocks_in d (ima_format c.args.align) bytes 0 count in
    let is = framed-ok c.args.align fitted file _ tt (sym c.in-Ok.ensures) in
    let shape = ap (λ (z : List ℕ). framed_shape c.args.align fitted file.align (length z / file.align) file.frames file.at) (sym c.requires.blocks) ∙ sym c.in-Ok.ensures in
    let listed = file-list c.args.align file bytes c.requires.blocks is.align_is in
    let range = frames-range c.args.align file bytes c.requires.align c.requires.file c.requires.blocks is.align_is (λ i. (c.type_inv.bytes i).fits) in
    record {
      list = list_of (sound_of file);
      list_is = framed-list-is c.args.align file fitted tt shape;
      legal = record { in_range = subst (λ (n : ℕ). IsInRange d n (list_of (sound_of file))) is.blocks_are (subst (λ (z : Blocks). IsInRange d count z) listed range); obeys = frames-obey (samples_in c.args.align) fitted.blocks (list_of (sound_of file)) };
      error_is = c.stored_error.ensures ∙ (ap (λ (z : List ℤ). sum_of d mine z count) c.as_slice-targets.ensures.list
          ∙ (ap (λ (n : ℕ). sum_of d mine fitted.targets n) is.blocks_are ∙ ap (λ (z : Blocks). sum_of d z fitted.targets fitted.blocks) listed));
    }
