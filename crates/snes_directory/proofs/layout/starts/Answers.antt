use Rattle.std.proofs.Common.{◌∙◌, ap, ◌+◌, ◌*◌, get_or}
use Rattle.snes_directory.proofs.Addresses.{next_address, starts_more}
use Rattle.snes_directory.proofs.layout.starts.Goals as goal

pub loop-count-preserved : goal.loop-count-preserved
loop-count-preserved c =
    let blocks = c.args.blocks.now in
    let i = c.loop-count.count-index in
    let so_far = c.loop-count.invariant in
    record {
      at_is = ap (λ n. n + 9 * get_or blocks i 0) so_far.at_is ∙ next_address c.args.first i blocks c.loop-count-test.true;
      starts_are = starts_more c.args.first i c.loop-count.at blocks c.loop-count.starts c.push.new.self so_far.starts_are so_far.at_is c.in_ok-push.ensures.ok;
    }
