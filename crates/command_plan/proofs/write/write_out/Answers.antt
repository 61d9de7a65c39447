use Rattle.std.proofs.Common.{ap, subst, List, ℕ, Err}
use Rattle.host_files.specs.Outside.{GrowsByFront}
use Rattle.command_plan.proofs.Storing.{say_stops, say_lacks}
use Rattle.command_plan.proofs.write.write_out.Goals as goal

pub returns-in-Err-clause-told : goal.returns-in-Err-clause-told
returns-in-Err-clause-told g c = c.in-Err.ensures.told c.args.line.now

pub returns-in-Err-Failed-clause-told : goal.returns-in-Err-Failed-clause-told
returns-in-Err-Failed-clause-told g c =
    say_stops c.args.writes.now c.args.line.now (g.H.Host.world c.args.host.now) (g.H.Host.world c.store_all.new.host) (g.H.Host.world c.say.new.self)
    c.in-Ok.ensures.told c.say.ensures.files (subst (λ (bs : List ℕ). GrowsByFront (g.H.Host.world c.store_all.new.host).said (g.H.Host.world c.say.new.self).said bs) c.as_bytes.ensures.value c.in-Err-Failed.ensures.err) c.say.ensures.calls (c.in-Err-Failed.ensures.failed (ap Err c.in-Err-Failed.field-0-is))

pub returns-in-Err-NoMemory-clause-told : goal.returns-in-Err-NoMemory-clause-told
returns-in-Err-NoMemory-clause-told g c =
    say_lacks c.args.writes.now c.args.line.now (g.H.Host.world c.args.host.now) (g.H.Host.world c.store_all.new.host) (g.H.Host.world c.say.new.self)
    c.in-Ok.ensures.told c.say.ensures.files (subst (λ (bs : List ℕ). GrowsByFront (g.H.Host.world c.store_all.new.host).said (g.H.Host.world c.say.new.self).said bs) c.as_bytes.ensures.value c.in-Err-NoMemory.ensures.err) c.say.ensures.calls
