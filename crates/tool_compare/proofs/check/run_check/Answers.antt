use Rattle.command_plan.proofs.Promised.{promised}
use Rattle.tool_compare.specs.Check.{check_course}
use Rattle.tool_compare.specs.Checked.{MayTell}
use Rattle.tool_compare.proofs.CheckedSteps.{answers_check}
use Rattle.tool_compare.proofs.check.run_check.Goals as goal

pub returns-clause-told : goal.returns-clause-told
returns-clause-told g c = λ files told.
    promised (check_course files c.args.manifest.now) (MayTell files c.args.manifest.now)
    (g.H.Host.world c.args.host.now) (g.H.Host.world c.come_check-status.new.host) (g.H.Host.world c.finish.new.host) _ _
    c.come_check-status.ensures.keeps.later (c.come_check-status.ensures.told files told) c.finish.ensures

pub returns-clause-answer : goal.returns-clause-answer
returns-clause-answer g c = λ files told.
    answers_check files c.args.manifest.now (g.H.Host.world c.args.host.now) (g.H.Host.world c.finish.new.host) c.finish.result (returns-clause-told g c files told)
