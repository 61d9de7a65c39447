use Rattle.std.proofs.Common.{arith, ◌∙◌}
use Rattle.std.proofs.lemmas.List.{length-set}
use Rattle.adpcm_nums.specs.LeastValue.{least}
use Rattle.machine_core.specs.Floors.{top}
use Rattle.ima_machine.specs.Rows.{ahead_of}
use Rattle.ima_machine.proofs.QuickSums.{each-more}
use Rattle.ima_machine.proofs.quick.open_row.Goals as goal

pub loop-index-preserved : goal.loop-index-preserved
loop-index-preserved c = record {
  size = length-set c.loop-index.row c.loop-index.index _ ∙ c.loop-index.invariant.size;
  each = each-more (λ i. least 16 (ahead_of c.args.ahead.now i) top) c.loop-index.row c.loop-index.index c.open_floor.result (omega (arith, c.loop-index.invariant.size, c.loop-index-test.true)) c.open_floor.ensures c.loop-index.invariant.each;
}
