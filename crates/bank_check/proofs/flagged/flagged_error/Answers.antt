use Rattle.std.proofs.Common.{ℕ, ◌*◌, ℤ, List, length, sym, ap, ◌∙◌, Ok}
use Rattle.std.specs.Prelude.{Result}
use Rattle.std.specs.Bool.{⊤}
use Rattle.machine_core.specs.Blocks.{must_forget}
use Rattle.machine_core.specs.Sums.{sum_of}
use Rattle.player_model.specs.Stored.{blocks_in}
use Rattle.command_faults.specs.declared.input_fault.InputFault.{InputFault}
use Rattle.bank_check.specs.Errors.{error_in, where_shaped}
use Rattle.bank_check.proofs.Shaped.{flagged-ok}
use Rattle.bank_check.proofs.flagged.flagged_error.Goals as goal

pub stored_error-requires-clause-count : goal.stored_error-requires-clause-count
stored_error-requires-clause-count g c =
    let r = g.C.Machine.rules c.args.codec.now in
    let list = blocks_in r.decoder (g.C.Stored.format c.args.codec.now) c.args.memory.now c.args.start c.args.blocks in
    let shaped = flagged-ok r.decoder (must_forget r.kind c.args.fitted.now.loop_block) c.args.fitted.now c.args.blocks c.args.loop_block list tt (sym c.in-Ok.ensures) in
    ap (λ (z : List ℤ). length z) c.as_slice-targets.ensures.list ∙ (c.requires.whole.count ∙ ap (λ (n : ℕ). n * r.decoder.samples) (sym shaped.blocks_are))

pub returns-in-Ok : goal.returns-in-Ok
returns-in-Ok g c =
    let r = g.C.Machine.rules c.args.codec.now in
    let list = blocks_in r.decoder (g.C.Stored.format c.args.codec.now) c.args.memory.now c.args.start c.args.blocks in
    let fitted = c.args.fitted.now in
    let shaped = flagged-ok r.decoder (must_forget r.kind fitted.loop_block) fitted c.args.blocks c.args.loop_block list tt (sym c.in-Ok.ensures) in
    ap (λ (n : ℕ). Ok n) (c.stored_error.ensures ∙ (ap (λ (z : List ℤ). sum_of r.decoder list z c.args.blocks) c.as_slice-targets.ensures.list ∙ ap (λ (n : ℕ). sum_of r.decoder list fitted.targets n) shaped.blocks_are))
    ∙ ap (λ (z : Result ⊤ InputFault). error_in r.decoder fitted (where_shaped z list)) c.in-Ok.ensures
