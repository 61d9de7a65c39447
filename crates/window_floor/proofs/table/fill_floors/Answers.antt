use Rattle.std.proofs.Common.{◌≡◌, suc, ◌+◌, ◌-◌, ◌*◌, ◌^◌, arith, ap, ◌∙◌, sym}
use Rattle.std.specs.Prelude.{ℤ, List}
use Rattle.std.proofs.lemmas.List.{length-set}
use Rattle.window_floor.specs.Numbers.{StandFor, windows_of}
use Rattle.window_floor.specs.Windows.{floor_from}
use Rattle.window_floor.proofs.FloorTable.{floor-end, table-begun, table-more, sum-more}
use Rattle.window_floor.proofs.table.fill_floors.Goals as goal

pub loop-place-init : goal.loop-place-init
loop-place-init c = record {
  size = length-set c.args.table.now c.args.b.places 0 ∙ c.requires.table;
  within = omega arith;
  small = omega arith;
  sum = λ samples levels. sym (floor-end (windows_of c.args.b samples) c.args.targets.now);
  filled = λ samples levels. table-begun (windows_of c.args.b samples) c.args.targets.now c.args.table.now c.requires.table;
}

pub loop-place-preserved : goal.loop-place-preserved
loop-place-preserved c =
    let next = c.loop-place.place in
    let follows : next ≡ next - 1 + 1 = omega arith in
    let count : c.args.b.places - (next - 1) ≡ suc (c.args.b.places - next) = omega arith in
    let grows : (c.args.b.places - (next - 1)) * 2 ^ 34 ≡ suc (c.args.b.places - next) * 2 ^ 34 = ap (λ n. n * 2 ^ 34) count in
    let sum : (samples : List ℤ) → StandFor c.args.b samples → c.loop-place.sum + c.own-sum.result ≡ floor_from (windows_of c.args.b samples) c.args.targets.now (next - 1) =
    λ samples levels. sum-more (windows_of c.args.b samples) c.args.targets.now (next - 1) next c.loop-place.sum c.own-sum.result (omega arith) follows
    (c.loop-place.invariant.sum samples levels) (c.own-sum.ensures.value samples levels) in
    record {
      size = length-set c.loop-place.table (next - 1) _ ∙ c.loop-place.invariant.size;
      within = omega arith;
      small = omega (arith, grows, c.own-sum.ensures.small, c.loop-place.invariant.small);
      sum = sum;
      filled = λ samples levels. table-more (windows_of c.args.b samples) c.args.targets.now c.loop-place.table (next - 1) next _ c.loop-place.invariant.size (omega arith) follows
          (sum samples levels) (c.loop-place.invariant.filled samples levels);
    }
