use Rattle.std.proofs.Common.{arith, ◌∙◌, w32}
use mir.Val.{SFits}
use Rattle.std.proofs.lemmas.List.{length-set}
use Rattle.std.proofs.lemmas.Int.{to_z-of_z}
use Rattle.adpcm_nums.specs.LeastValue.{least}
use Rattle.machine_core.specs.Floors.{top}
use Rattle.ima_machine.specs.Rows.{paid_ahead}
use Rattle.ima_machine.proofs.QuickSums.{each-more, paid-value}
use Rattle.ima_machine.proofs.quick.paid_row.Goals as goal

pub loop-index-preserved : goal.loop-index-preserved
loop-index-preserved c =
    let before : SFits w32 c.args.before = c.ranges.before in
    let here : SFits w32 c.args.here = c.ranges.here in
    let rise = simp to_z-of_z at c.rise-rise.ensures.value in
    let ends = simp to_z-of_z at c.ends_cost-ends.ensures.value in
    let value = paid-value c.args.before c.args.here c.args.ahead.now c.loop-index.index c.rise-rise.result c.ends_cost-ends.result c.quick_paid.result rise ends c.quick_paid.ensures (omega (arith, c.quick_paid.type_inv)) in
    simp to_z-of_z (record {
      size = length-set c.loop-index.row c.loop-index.index _ ∙ c.loop-index.invariant.size;
      each = each-more (λ i. least 16 (paid_ahead c.args.before c.args.here c.args.ahead.now i) top) c.loop-index.row c.loop-index.index c.quick_paid.result (omega (arith, c.loop-index.invariant.size, c.loop-index-test.true)) value (simp to_z-of_z at c.loop-index.invariant.each);
    })
