use Rattle.std.proofs.lemmas.Result.{err_from_is_err_and}
use Rattle.command_faults.specs.declared.input_fault.InputFault.TheVariants.{BlockLength}
use Rattle.command_plan.specs.Read.{given, whole_read}
use Rattle.command_plan.proofs.ReadOn.{first_halts}
use Rattle.tool_block.specs.Block.{raw_in}
use Rattle.tool_block.proofs.BlockSteps.{block_refused, block_read}
use Rattle.tool_block.proofs.block.fetch_samples.Goals as goal

pub returns-in_err-bytes-clause-told : goal.returns-in_err-bytes-clause-told
returns-in_err-bytes-clause-told g c = λ files told.
    let p = err_from_is_err_and c.from_residual.result c.from_residual.ensures.1 in
    rw (p.1, p.2) (
    first_halts (whole_read files c.args.input.now 32 (BlockLength 33)) (λ bs. given (raw_in c.args.input.now bs))
    (g.H.Host.world c.args.host.now) (g.H.Host.world c.fetch_whole.new.host) c.in_err-bytes.field-0.0 (c.in_err-bytes.ensures.told files told))

pub returns-then-raw-ne32-clause-told : goal.returns-then-raw-ne32-clause-told
returns-then-raw-ne32-clause-told g c = λ files told.
    let got = c.in_ok-bytes.ensures.told files told in
    block_refused files c.args.input.now c.in_ok-bytes.bytes.items c.as_slice-raw.result.now _ (g.H.Host.world c.args.host.now) (g.H.Host.world c.fetch_whole.new.host)
    c.as_slice-raw.ensures.value got.0 got.1 c.if-raw-ne32.true c.input_refused.ensures

pub returns-clause-told : goal.returns-clause-told
returns-clause-told g c = λ files told.
    let got = c.in_ok-bytes.ensures.told files told in
    block_read files c.args.input.now c.in_ok-bytes.bytes.items c.as_slice-raw.result.now c.read_samples.result (g.H.Host.world c.args.host.now) (g.H.Host.world c.fetch_whole.new.host)
    c.as_slice-raw.ensures.value got.0 got.1 c.if-raw-ne32.false c.read_samples.ensures.samples
