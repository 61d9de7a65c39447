use Rattle.std.proofs.Common.{arith}
use Rattle.machine_core.specs.Blocks.{first_only}
use Rattle.loop_fit.proofs.SegmentsCut.{segments-cut}
use Rattle.bank_kinds.specs.Codec.{fixed_in}
use Rattle.bank_kinds.specs.Certified.{segments_in}
use Rattle.bank_kinds.proofs.ReadSegments.{read-segments}
use Rattle.bank_kinds.proofs.CertifiedBounds.{segments-below}
use Rattle.bank_kinds.proofs.laws.certified_bounds_hold.Goals as goal

pub returns : goal.returns
returns c = λ codec fitted bytes bound levels laws fit certified list legal.
    (let r = codec.rules in
    let fixed = fixed_in codec fitted in
    let counts = segments_in codec fitted in
    let whole = fit.whole in
    let machine = laws.laws in
    let cut = segments-cut r.kind fitted.blocks fitted.loop_block whole.some whole.loop_block in
    let parts = c.segments_make_the_whole.ensures.legal r.decoder fitted.blocks fixed list counts machine.some_samples legal cut in
    let sum = c.segments_make_the_whole.ensures.sum r.decoder fitted.blocks fixed list fitted.targets counts machine.forgets legal cut in
    let below = segments-below r fixed fitted.targets fitted.blocks list
    (λ targets cert part level alone count range accepted. c.accepted_values_hold.ensures r targets cert part machine laws.boxed level alone count range accepted)
    (λ blocks targets part alone count range. c.floors_hold.ensures r first_only blocks targets part machine alone count range)
    whole.count whole.range 0 counts certified.segments
    (read-segments r.kind r.decoder.samples counts bytes certified.segments certified.read) certified.shown cut parts in
    let bound_is = certified.bound_is in
    omega (arith, bound_is, sum, below))
