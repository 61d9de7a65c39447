use Rattle.std.proofs.Common.{◌∙◌, arith}
use Rattle.bound_cert.proofs.Scans.{layers-go, layers-stop, layers-end}
use Rattle.bound_cert.proofs.reading.layers_read.Goals as goal

pub loop-i-preserved : goal.loop-i-preserved
loop-i-preserved c = record {
  left = layers-go c.args.limits c.args.bytes.now c.loop-i.at c.args.count c.loop-i._i c.loop-i.last c.in-Ok.key c.in-Ok.end c.loop-i-test.true c.in-Ok.ensures.exact ∙ c.loop-i.invariant.left;
  place = c.in-Ok.ensures.within;
}

pub returns-in-Err-clause-exact : goal.returns-in-Err-clause-exact
returns-in-Err-clause-exact c = layers-stop c.args.limits c.args.bytes.now c.loop-i.at c.args.count c.loop-i._i c.loop-i.last c.in-Err.fault c.loop-i-test.true c.in-Err.ensures.exact ∙ c.loop-i.invariant.left

pub returns-clause-exact : goal.returns-clause-exact
returns-clause-exact c = layers-end c.args.limits c.args.bytes.now c.loop-i.at c.args.count c.loop-i._i c.loop-i.last (omega arith) ∙ c.loop-i.invariant.left
