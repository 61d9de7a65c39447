use Rattle.std.proofs.Common.{sym, inr}
use Rattle.snes_directory.proofs.Entries.{entries_begin, entries_more, entries_stop}
use Rattle.snes_directory.proofs.reading.read_entries.Goals as goal

pub loop-i-init : goal.loop-i-init
loop-i-init c =
    entries_begin c.args.bytes.now c.args.base c.args.memory.now c.in_ok-rates.rates c.in_ok-starts.starts c.in_ok-agains.agains c.in_ok-rates.ensures c.in_ok-starts.ensures c.in_ok-agains.ensures

pub loop-i-preserved : goal.loop-i-preserved
loop-i-preserved c =
    entries_more c.args.bytes.now c.args.base c.args.memory.now c.loop-i.i (record { rates = c.loop-i.rates; starts = c.loop-i.starts; agains = c.loop-i.agains }) c.in-Ok.entry
    c.push.new.self c.push-in-loop-i.new.self c.push-in-loop-i-2.new.self c.loop-i.invariant (sym c.in-Ok.ensures)
    c.in_ok-push.ensures.ok c.in_ok-push-2.ensures.ok c.in_ok-push-3.ensures.ok

pub returns-in-Err : goal.returns-in-Err
returns-in-Err c =
    inr (entries_stop c.args.bytes.now c.args.base c.args.memory.now c.args.count c.loop-i.i (record { rates = c.loop-i.rates; starts = c.loop-i.starts; agains = c.loop-i.agains }) c.in-Err.fault
    c.loop-i-test.true c.loop-i.invariant (sym c.in-Err.ensures))
