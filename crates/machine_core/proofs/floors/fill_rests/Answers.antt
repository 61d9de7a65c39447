use Rattle.std.proofs.Common.{◌≡◌, ◌+◌, ◌-◌, ◌*◌, ◌^◌, length, arith, length-set}
use Rattle.adpcm_nums.proofs.RangeSumLaws.{sum_range-next}
use Rattle.machine_core.specs.Blocks.{must_forget}
use Rattle.machine_core.specs.Floors.{block_floor, floors_from}
use Rattle.machine_core.proofs.FloorLaws.{rests-more, one-more-floor}
use Rattle.machine_core.proofs.floors.fill_rests.Goals as goal

pub loop-block-preserved : goal.loop-block-preserved
loop-block-preserved g c =
    let rules = g.M.Machine.rules c.args.machine.now in
    let fixed = must_forget rules.kind c.args.loop_block in
    let targets = c.args.targets.now in
    let blocks = length c.args.rests.now - 1 in
    let next = c.loop-block.block in
    let follows : next ≡ next - 1 + 1 = omega arith in
    let split = sum_range-next (block_floor rules fixed targets) (next - 1) next blocks follows c.loop-block.invariant.within in
    let sum : c.loop-block.sum + c.floor_at_block-floor.result ≡ floors_from rules fixed targets (next - 1) (blocks - (next - 1)) = omega (arith, split, c.floor_at_block-floor.ensures.value) in record {
      size = omega (arith, length-set c.loop-block.rests (next - 1) (c.loop-block.sum + c.floor_at_block-floor.result));
      within = omega arith;
      small = one-more-floor c.loop-block.sum c.floor_at_block-floor.result (blocks - next) (blocks - (next - 1)) (rules.decoder.samples * 2 ^ 36) c.loop-block.invariant.small c.floor_at_block-floor.ensures.small (omega arith);
      so_far = sum;
      holds = rests-more rules fixed targets blocks (next - 1) next _ c.loop-block.rests follows (omega arith) sum c.loop-block.invariant.holds;
    }
