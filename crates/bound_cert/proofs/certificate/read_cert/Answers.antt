use Rattle.std.proofs.Common.{sym}
use Rattle.bound_cert.proofs.Whole.{read-good, read-ok, read-err}
use Rattle.bound_cert.proofs.certificate.read_cert.Goals as goal

pub invariant_of-result : goal.invariant_of-result
invariant_of-result c = (read-good c.args.shape.now.kind c.args.shape.now.block_samples c.args.shape.now.segments.now c.args.bytes.now c.in-Ok.field-0 c.requires (sym c.in-Ok.ensures)).0

pub returns-in-Ok-clause-exact : goal.returns-in-Ok-clause-exact
returns-in-Ok-clause-exact c = read-ok c.args.shape.now.kind c.args.shape.now.block_samples c.args.shape.now.segments.now c.args.bytes.now c.in-Ok.field-0 c.requires c.in-Ok.ensures

pub returns-in-Ok-clause-range : goal.returns-in-Ok-clause-range
returns-in-Ok-clause-range c = (read-good c.args.shape.now.kind c.args.shape.now.block_samples c.args.shape.now.segments.now c.args.bytes.now c.in-Ok.field-0 c.requires (sym c.in-Ok.ensures)).1

pub returns-in-Err-clause-exact : goal.returns-in-Err-clause-exact
returns-in-Err-clause-exact c = read-err c.args.shape.now.kind c.args.shape.now.block_samples c.args.shape.now.segments.now c.args.bytes.now c.in-Err.fault c.requires c.in-Err.ensures

pub returns-in-Ok-clause-blocks : goal.returns-in-Ok-clause-blocks
returns-in-Ok-clause-blocks c = (read-good c.args.shape.now.kind c.args.shape.now.block_samples c.args.shape.now.segments.now c.args.bytes.now c.in-Ok.field-0 c.requires (sym c.in-Ok.ensures)).2
