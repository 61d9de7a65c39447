use Rattle.std.proofs.Common.{arith, length, ◌<◌}
use Rattle.bank_compile.proofs.FoundParts.{first-more-at}
use Rattle.bank_compile.proofs.segments.search_parts.Goals as goal

pub loop-count-preserved : goal.loop-count-preserved
loop-count-preserved g c =
    let at = c.loop-count in
    let counts = c.args.counts.now in
    let below : at.count-index < length counts = omega arith in
    first-more-at (g.M.Machine.rules c.args.machine.now) c.args.effort c.args.share c.args.targets.now counts at.count-index at.first at.founds.items _ c.in_ok-found.found at.invariant below
    c.in_ok-found.ensures.found c.in_ok-found.ensures.near_beam c.in-Ok-push.ensures.items
