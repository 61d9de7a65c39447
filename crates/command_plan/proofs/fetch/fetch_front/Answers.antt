use Rattle.std.proofs.Common.{ap, Err}
use Rattle.command_plan.proofs.Tests.{waits_once, fetch_fails}
use Rattle.command_plan.proofs.fetch.fetch_front.Goals as goal

pub returns-in-Err-Failed-clause-told : goal.returns-in-Err-Failed-clause-told
returns-in-Err-Failed-clause-told g c = λ files told.
    fetch_fails c.args.name.now _ (g.H.Host.world c.args.host.now) (g.H.Host.world c.fetch.new.self)
    (waits_once _ _ c.fetch.ensures.files c.fetch.ensures.said c.fetch.ensures.faults c.fetch.ensures.calls) (c.in-Err-Failed.ensures.failed (ap Err c.in-Err-Failed.field-0-is)) c.fetch_failed.ensures
