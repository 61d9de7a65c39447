use Rattle.std.proofs.Common.{◌+◌, ◌-◌, sym, ◌∙◌, arith}
use Rattle.ima_wave.specs.Heads.{block_count}
use Rattle.ima_wave.proofs.BadHeads.{one-more, one-bad, no-more}
use Rattle.ima_wave.proofs.heads.check_heads.Goals as goal

pub loop-block-preserved : goal.loop-block-preserved
loop-block-preserved c =
    let count = block_count c.args.align c.args.bytes.now in
    let block = c.loop-block.block in
    sym (one-more c.args.align c.args.bytes.now (count - block) (count - (block + 1)) block (omega (arith, c.loop-block-test.true)) c.in-Ok.ensures.sound) ∙ c.loop-block.invariant

pub returns-in-Err-clause-fault : goal.returns-in-Err-clause-fault
returns-in-Err-clause-fault c =
    let count = block_count c.args.align c.args.bytes.now in
    let block = c.loop-block.block in
    sym c.loop-block.invariant ∙ one-bad c.args.align c.args.bytes.now (count - block) (count - (block + 1)) block c.in-Err.fault (omega (arith, c.loop-block-test.true)) c.in-Err.ensures.fault

pub returns-clause-sound : goal.returns-clause-sound
returns-clause-sound c =
    let count = block_count c.args.align c.args.bytes.now in
    sym c.loop-block.invariant ∙ no-more c.args.align c.args.bytes.now (count - c.loop-block.block) c.loop-block.block (omega (arith, c.loop-block-test.false))
