use Rattle.command_plan.proofs.Promised.{promised}
use Rattle.tool_compile.specs.Make.{make_course, IsMade}
use Rattle.tool_compile.proofs.MakeSteps.{answers_make}
use Rattle.tool_compile.proofs.make.run_make.Goals as goal

pub returns-clause-told : goal.returns-clause-told
returns-clause-told g c =
    promised make_course (IsMade c.args.number) (g.H.Host.world c.args.host.now) (g.H.Host.world c.come_make-status.new.host) (g.H.Host.world c.finish.new.host) _ _
    c.come_make-status.ensures.keeps.later c.come_make-status.ensures.told c.finish.ensures

pub returns-clause-answer : goal.returns-clause-answer
returns-clause-answer g c = answers_make c.args.number (g.H.Host.world c.args.host.now) (g.H.Host.world c.finish.new.host) c.finish.result (returns-clause-told g c)
