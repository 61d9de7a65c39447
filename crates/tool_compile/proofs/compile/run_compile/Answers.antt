use Rattle.command_plan.proofs.Promised.{promised}
use Rattle.tool_compile.specs.Compile.{compile_course, MayStore}
use Rattle.tool_compile.proofs.CompiledSteps.{answers_compile}
use Rattle.tool_compile.proofs.compile.run_compile.Goals as goal

pub returns-clause-told : goal.returns-clause-told
returns-clause-told g c = λ files told.
    promised (compile_course files c.args.manifest.now) (MayStore files c.args.manifest.now)
    (g.H.Host.world c.args.host.now) (g.H.Host.world c.come_compile-status.new.host) (g.H.Host.world c.finish.new.host) _ _
    c.come_compile-status.ensures.keeps.later (c.come_compile-status.ensures.told files told) c.finish.ensures

pub returns-clause-answer : goal.returns-clause-answer
returns-clause-answer g c = λ files told.
    answers_compile files c.args.manifest.now (g.H.Host.world c.args.host.now) (g.H.Host.world c.finish.new.host) c.finish.result told (returns-clause-told g c files told)
