use Rattle.std.proofs.Common.{◌∷◌, [], List, ℕ, ℤ, ap, sym, subst}
use Rattle.command_plan.specs.Plan.{names_in}
use Rattle.command_plan.specs.Read.{written_under}
use Rattle.command_plan.proofs.Promised.{first_ends, first_short, then_reaches, written}
use Rattle.tool_block.specs.Block.{targets_read, targets_in, IsBlock}
use Rattle.tool_block.proofs.BlockSteps.{targets_are}
use Rattle.tool_block.proofs.block.come_block.Goals as goal

pub returns-in-Err-clause-told : goal.returns-in-Err-clause-told
returns-in-Err-clause-told g c = λ files told.
    first_ends (targets_read files c.args.input.now) (λ ts. written_under (c.args.output.now ∷ [])) (IsBlock (targets_in files c.args.input.now) c.args.output.now)
    (g.H.Host.world c.args.host.now) (g.H.Host.world c.fetch_samples.new.host) c.in-Err.status (c.in-Err.ensures.told files told)

pub returns-in-Err-form_block-clause-told : goal.returns-in-Err-form_block-clause-told
returns-in-Err-form_block-clause-told g c = λ files told.
    first_short (targets_read files c.args.input.now) (λ ts. written_under (c.args.output.now ∷ [])) (IsBlock (targets_in files c.args.input.now) c.args.output.now)
    (g.H.Host.world c.args.host.now) (g.H.Host.world c.fetch_samples.new.host) (c.in-Ok.ensures.told files told).0

pub returns-in-Ok-form_block-clause-told : goal.returns-in-Ok-form_block-clause-told
returns-in-Ok-form_block-clause-told g c = λ files told.
    let got = c.in-Ok.ensures.told files told in
    let input = c.args.input.now in
    let output = c.args.output.now in
    let may : IsBlock (targets_in files input) output (c.in-Ok-form_block.file ∷ []) c.in-Ok-form_block.line =
    subst (λ (ts : List ℤ). IsBlock ts output (c.in-Ok-form_block.file ∷ []) c.in-Ok-form_block.line) (targets_are files input c.in-Ok.samples got.1) c.in-Ok-form_block.ensures in
    then_reaches (targets_read files input) (λ ts. written_under (output ∷ [])) c.in-Ok.samples (IsBlock (targets_in files input) output)
    (g.H.Host.world c.args.host.now) (g.H.Host.world c.fetch_samples.new.host) (g.H.Host.world c.write_out.new.host) c.write_out.result got.1 got.0
    (written (IsBlock (targets_in files input) output) (output ∷ []) (c.in-Ok-form_block.file ∷ []) c.as_str.result.now (g.H.Host.world c.fetch_samples.new.host) (g.H.Host.world c.write_out.new.host) c.write_out.result
    (subst (λ (x : List ℕ). IsBlock (targets_in files input) output (c.in-Ok-form_block.file ∷ []) x) (sym c.as_str.ensures) may) (ap names_in may.file) c.write_out.ensures.told)
