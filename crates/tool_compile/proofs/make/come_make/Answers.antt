use Rattle.tool_compile.proofs.MakeSteps.{make_comes, make_short}
use Rattle.tool_compile.proofs.make.come_make.Goals as goal

pub returns-in-Ok-clause-told : goal.returns-in-Ok-clause-told
returns-in-Ok-clause-told g c =
    make_comes c.args.number c.in-Ok.line c.as_str.result.now (g.H.Host.world c.args.host.now) (g.H.Host.world c.write_out.new.host) c.write_out.result
    c.in-Ok.ensures c.as_str.ensures c.write_out.ensures.told

pub returns-in-Err-clause-told : goal.returns-in-Err-clause-told
returns-in-Err-clause-told g c = make_short c.args.number (g.H.Host.world c.args.host.now)
