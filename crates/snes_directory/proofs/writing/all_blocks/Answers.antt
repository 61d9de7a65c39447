use Rattle.std.proofs.Common.{◌≡◌, ap, arith, length}
use Rattle.snes_directory.specs.Part.{IsPart}
use Rattle.snes_directory.proofs.Directories.{blocks_more, part-at}
use Rattle.snes_directory.proofs.writing.all_blocks.Goals as goal

pub loop-part-preserved : goal.loop-part-preserved
loop-part-preserved g c =
    let view = g.P.AsPart.part in
    let items = c.args.parts.now in
    let i = c.loop-part.part-index in
    let item = c.part-item.result in
    let more = blocks_more view items i item c.loop-part-test.true c.part-item.is in
    let part : IsPart (view item) = part-at view items i item c.loop-part-test.true c.part-item.is c.requires.parts in
    let size : length c.blocks-in-loop-part.result.now ≡ length (view item).blocks = ap length c.blocks-in-loop-part.ensures in
    record { all_is = omega (arith, more, size, c.loop-part.invariant.all_is); high = omega (arith, size, part.small, c.loop-part.invariant.high) }
