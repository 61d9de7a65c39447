use Rattle.std.proofs.Common.{◌*◌, ◌^◌, ◌+◌, arith}
use Rattle.adpcm_nums.proofs.RangeSumLaws.{sum_range-more}
use Rattle.machine_core.specs.Blocks.{must_forget}
use Rattle.machine_core.specs.Floors.{block_floor}
use Rattle.machine_core.proofs.FloorLaws.{one-more-floor}
use Rattle.machine_core.proofs.floors.floor_of_blocks.Goals as goal

pub loop-block-preserved : goal.loop-block-preserved
loop-block-preserved g c =
    let rules = g.M.Machine.rules c.args.machine.now in record {
      small = one-more-floor c.loop-block.sum c.floor_at_block-sum.result c.loop-block.block (c.loop-block.block + 1) (rules.decoder.samples * 2 ^ 36) c.loop-block.invariant.small c.floor_at_block-sum.ensures.small (omega arith);
      so_far = sum_range-more (block_floor rules (must_forget rules.kind c.args.loop_block) c.args.targets.now) c.loop-block.block c.args.blocks _ _ _ c.loop-block-test.true c.floor_at_block-sum.ensures.value c.loop-block.invariant.so_far;
    }
