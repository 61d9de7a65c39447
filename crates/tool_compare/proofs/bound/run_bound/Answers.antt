use Rattle.command_plan.proofs.Promised.{promised}
use Rattle.tool_compare.specs.Bound.{bound_course}
use Rattle.tool_compare.specs.Bounded.{MayBound}
use Rattle.tool_compare.proofs.BoundedSteps.{answers_bound}
use Rattle.tool_compare.proofs.bound.run_bound.Goals as goal

pub returns-clause-told : goal.returns-clause-told
returns-clause-told g c = λ files told.
    promised (bound_course files c.args.manifest.now) (MayBound files c.args.manifest.now)
    (g.H.Host.world c.args.host.now) (g.H.Host.world c.come_bound-status.new.host) (g.H.Host.world c.finish.new.host) _ _
    c.come_bound-status.ensures.keeps.later (c.come_bound-status.ensures.told files told) c.finish.ensures

pub returns-clause-answer : goal.returns-clause-answer
returns-clause-answer g c = λ files told.
    answers_bound files c.args.manifest.now (g.H.Host.world c.args.host.now) (g.H.Host.world c.finish.new.host) c.finish.result (returns-clause-told g c files told)
