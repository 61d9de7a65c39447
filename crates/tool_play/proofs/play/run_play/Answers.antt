use Rattle.command_plan.proofs.Promised.{promised}
use Rattle.tool_play.specs.Played.{said_read, play_course, IsPlayed}
use Rattle.tool_play.proofs.PlaySteps.{answers_play}
use Rattle.tool_play.proofs.play.run_play.Goals as goal

pub returns-clause-told : goal.returns-clause-told
returns-clause-told g c = λ files told.
    promised (play_course files c.args.kind c.args.file.now c.args.entry c.args.count) (IsPlayed (said_read files c.args.kind c.args.file.now c.args.entry c.args.count).gives)
    (g.H.Host.world c.args.host.now) (g.H.Host.world c.come_play-status.new.host) (g.H.Host.world c.finish.new.host) _ _
    c.come_play-status.ensures.keeps.later (c.come_play-status.ensures.told files told) c.finish.ensures

pub returns-clause-answer : goal.returns-clause-answer
returns-clause-answer g c = λ files told.
    answers_play files c.args.kind c.args.file.now c.args.entry c.args.count (g.H.Host.world c.args.host.now) (g.H.Host.world c.finish.new.host) c.finish.result (returns-clause-told g c files told)
