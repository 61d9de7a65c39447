use Rattle.std.proofs.Common.{◌∙◌, arith, refl}
use Rattle.bound_cert.proofs.Scans.{segments-go, segments-stop, segments-trail, segments-end}
use Rattle.bound_cert.proofs.reading.segments_read.Goals as goal

pub loop-blocks-preserved : goal.loop-blocks-preserved
loop-blocks-preserved c = record {
  left = segments-go c.args.kind c.args.samples c.args.segments.now c.args.bytes.now c.loop-blocks.at c.loop-blocks.blocks-index _ c.in-Ok.end c.loop-blocks-test.true refl c.in-Ok.ensures.exact ∙ c.loop-blocks.invariant.left;
  place = c.in-Ok.ensures.within;
}

pub returns-in-Err : goal.returns-in-Err
returns-in-Err c = segments-stop c.args.kind c.args.samples c.args.segments.now c.args.bytes.now c.loop-blocks.at c.loop-blocks.blocks-index _ c.in-Err.fault c.loop-blocks-test.true refl c.in-Err.ensures.exact ∙ c.loop-blocks.invariant.left

pub returns-then-at-bytes : goal.returns-then-at-bytes
returns-then-at-bytes c = segments-trail c.args.kind c.args.samples c.args.segments.now c.args.bytes.now c.loop-blocks.at c.loop-blocks.blocks-index (omega arith) (omega arith) ∙ c.loop-blocks.invariant.left

pub returns : goal.returns
returns c = segments-end c.args.kind c.args.samples c.args.segments.now c.args.bytes.now c.loop-blocks.at c.loop-blocks.blocks-index (omega arith) (omega arith) ∙ c.loop-blocks.invariant.left
