use Rattle.command_plan.proofs.Promised.{promised}
use Rattle.tool_block.specs.Block.{block_course, targets_in, IsBlock}
use Rattle.tool_block.proofs.BlockSteps.{answers_block}
use Rattle.tool_block.proofs.block.run_block.Goals as goal

pub returns-clause-told : goal.returns-clause-told
returns-clause-told g c = λ files told.
    promised (block_course files c.args.input.now c.args.output.now) (IsBlock (targets_in files c.args.input.now) c.args.output.now)
    (g.H.Host.world c.args.host.now) (g.H.Host.world c.come_block-status.new.host) (g.H.Host.world c.finish.new.host) _ _
    c.come_block-status.ensures.keeps.later (c.come_block-status.ensures.told files told) c.finish.ensures

pub returns-clause-answer : goal.returns-clause-answer
returns-clause-answer g c = λ files told.
    answers_block files c.args.input.now c.args.output.now (g.H.Host.world c.args.host.now) (g.H.Host.world c.finish.new.host) c.finish.result (returns-clause-told g c files told)
