use Rattle.std.proofs.Common.{ap, ◌∙◌, ◌+◌, ◌-◌, min, get_or, arith}
use Rattle.std.proofs.lemmas.List.{length-set}
use Rattle.machine_core.specs.Floors.{top}
use Rattle.block_steps.proofs.Later.{later-more}
use Rattle.block_steps.proofs.floors.fill_later.Goals as goal

pub loop-k-preserved : goal.loop-k-preserved
loop-k-preserved g c =
    let m = g.M.Machine.rules c.args.machine.now in
    let a = c.floor_of-floor.ensures in
    let s = c.saturating_add.ensures in
    let len = length-set c.loop-k.later (c.args.blocks - 1 - c.loop-k.k) c.saturating_add.result in
    let old = c.loop-k.invariant.count in
    record {
      count = omega arith;
      each = later-more m c.args.targets.now c.args.blocks c.loop-k.k c.loop-k.later c.saturating_add.result c.loop-k-test.true c.loop-k.invariant.count c.loop-k.invariant.each
          (s ∙ ap (λ z. min (z + get_or c.loop-k.later (c.args.blocks - 1 - c.loop-k.k + 1) 0) top) a);
    }
