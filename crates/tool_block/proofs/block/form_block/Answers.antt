use Rattle.std.proofs.Common.{◌∙◌, arith}
use Rattle.tool_block.proofs.BlockSteps.{is_block}
use Rattle.tool_block.proofs.block.form_block.Goals as goal

pub returns : goal.returns
returns c =
    is_block c.args.samples.now c.args.output.now _ _ _ _ _ _ c.encode_zero-error.result.1 c.in_ok-name.ensures (c.in_ok-bytes.ensures ∙ c.spell_block.ensures) c.encode_zero-error.ensures.head c.encode_zero-error.ensures.flags c.encode_zero-error.ensures.codes
    c.in_ok-line.ensures c.encode_zero-error.ensures.sum (omega arith) c.encode_zero-error.ensures.least
