use Rattle.std.proofs.Common.{ap, refl, arith, Err}
use Rattle.std.proofs.lemmas.Option.{slice_get_read}
use Rattle.command_plan.proofs.Storing.{stored_more, store_stops, store_lacks}
use Rattle.command_plan.proofs.write.store_all.Goals as goal

pub returns-in-Err-Failed-clause-told : goal.returns-in-Err-Failed-clause-told
returns-in-Err-Failed-clause-told g c =
    let at = slice_get_read c.args.writes.now _ c.loop-write.write-index c.write-item.result refl (omega arith) c.write-item.is in
    store_stops c.args.writes.now c.loop-write.write-index c.write-item.result c.as_str-name.result.now (g.H.Host.world c.args.host.now) (g.H.Host.world c.loop-write.host) (g.H.Host.world c.store.new.self)
    _ at c.as_str-name.ensures c.loop-write.invariant c.in-Err-Failed.ensures.err c.store.ensures.said c.store.ensures.calls (c.in-Err-Failed.ensures.failed (ap Err c.in-Err-Failed.field-0-is)) c.store_failed.ensures

pub returns-in-Err-NoMemory-clause-told : goal.returns-in-Err-NoMemory-clause-told
returns-in-Err-NoMemory-clause-told g c =
    let at = slice_get_read c.args.writes.now _ c.loop-write.write-index c.write-item.result refl (omega arith) c.write-item.is in
    store_lacks c.args.writes.now c.loop-write.write-index c.write-item.result c.as_str-name.result.now (g.H.Host.world c.args.host.now) (g.H.Host.world c.loop-write.host) (g.H.Host.world c.store.new.self)
    at c.as_str-name.ensures c.loop-write.invariant c.in-Err-NoMemory.ensures.err c.store.ensures.said c.store.ensures.calls

pub loop-write-preserved : goal.loop-write-preserved
loop-write-preserved g c =
    let at = slice_get_read c.args.writes.now _ c.loop-write.write-index c.write-item.result refl (omega arith) c.write-item.is in
    stored_more c.args.writes.now c.loop-write.write-index c.write-item.result c.as_str-name.result.now c.as_slice.result.now (g.H.Host.world c.args.host.now) (g.H.Host.world c.loop-write.host) (g.H.Host.world c.store.new.self)
    at c.as_str-name.ensures c.as_slice.ensures c.loop-write.invariant c.in-Ok.ensures.ok c.store.ensures.said c.store.ensures.faults c.store.ensures.calls
