use Rattle.std.proofs.Common.{arith}
use Rattle.strong_bound.proofs.Leads.{nearest-leads}
use Rattle.strong_bound.proofs.greedy.lead_of.Goals as goal

pub loop-place-preserved : goal.loop-place-preserved
loop-place-preserved g c = record {
  fits = nearest-leads (g.M.Machine.rules c.args.machine.now) (g.met.M.Machine.lawful c.args.machine.now) c.args.head c.loop-place.place c.loop-place.state _ c.take_nearest-taken.result c.take_nearest-taken.ensures c.requires.head (omega (arith, c.loop-place-test.true, c.block_samples-place-end.ensures)) c.loop-place.invariant.fits;
}
