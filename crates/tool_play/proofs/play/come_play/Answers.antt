use Rattle.command_plan.proofs.Promised.{first_ends}
use Rattle.tool_play.specs.Played.{said_read, saying, IsPlayed}
use Rattle.tool_play.proofs.PlaySteps.{plays_none, plays_some}
use Rattle.tool_play.proofs.play.come_play.Goals as goal

pub returns-in-Err-clause-told : goal.returns-in-Err-clause-told
returns-in-Err-clause-told g c = λ files told.
    let read = said_read files c.args.kind c.args.file.now c.args.entry c.args.count in
    first_ends read (λ ls. saying c.args.count) (IsPlayed read.gives) (g.H.Host.world c.args.host.now) (g.H.Host.world c.fetch_outputs.new.host) c.in-Err.status (c.in-Err.ensures.told files told)

pub returns-then-count-eq0-clause-told : goal.returns-then-count-eq0-clause-told
returns-then-count-eq0-clause-told g c = λ files told.
    let got = c.in-Ok.ensures.told files told in
    plays_none files c.args.kind c.args.file.now c.args.entry c.args.count c.in-Ok.lines (g.H.Host.world c.args.host.now) (g.H.Host.world c.fetch_outputs.new.host)
    c.if-count-eq0.true got.0 got.1

pub returns-clause-told : goal.returns-clause-told
returns-clause-told g c = λ files told.
    let got = c.in-Ok.ensures.told files told in
    plays_some files c.args.kind c.args.file.now c.args.entry c.args.count c.in-Ok.lines c.as_str.result.now
    (g.H.Host.world c.args.host.now) (g.H.Host.world c.fetch_outputs.new.host) (g.H.Host.world c.write_out.new.host) c.write_out.result
    c.if-count-eq0.false got.0 got.1 c.as_str.ensures c.write_out.ensures.told
