use Rattle.command_plan.proofs.Promised.{promised}
use Rattle.tool_decompile.specs.Decompile.{entries_in, decompile_course, IsDecompiled}
use Rattle.tool_decompile.proofs.DecompiledSteps.{answers_decompile}
use Rattle.tool_decompile.proofs.decompile.run_decompile.Goals as goal

pub returns-clause-told : goal.returns-clause-told
returns-clause-told g c = λ files told.
    promised (decompile_course files c.args.kind c.args.file.now c.args.output.now) (IsDecompiled (entries_in files c.args.kind c.args.file.now) c.args.output.now)
    (g.H.Host.world c.args.host.now) (g.H.Host.world c.come_decompile-status.new.host) (g.H.Host.world c.finish.new.host) _ _
    c.come_decompile-status.ensures.keeps.later (c.come_decompile-status.ensures.told files told) c.finish.ensures

pub returns-clause-answer : goal.returns-clause-answer
returns-clause-answer g c = λ files told.
    answers_decompile files c.args.kind c.args.file.now c.args.output.now (g.H.Host.world c.args.host.now) (g.H.Host.world c.finish.new.host) c.finish.result told c.sounds_for_ever.ensures (returns-clause-told g c files told)
