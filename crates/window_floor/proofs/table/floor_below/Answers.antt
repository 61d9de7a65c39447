use Rattle.std.proofs.Common.{min, ap, arith}
use Rattle.window_floor.specs.Numbers.{windows_of}
use Rattle.window_floor.proofs.FloorTable.{rest-more, rest-none}
use Rattle.window_floor.proofs.table.floor_below.Goals as goal

pub loop-place-preserved : goal.loop-place-preserved
loop-place-preserved c = record {
  small = omega (arith, c.own-sum.ensures.small, c.loop-place.invariant.small);
  rest = λ samples levels. rest-more (windows_of c.args.b samples) c.args.targets.now c.loop-place.place c.loop-place.sum c.own-sum.result (omega arith)
      (c.own-sum.ensures.value samples levels) (c.loop-place.invariant.rest samples levels);
}

pub returns : goal.returns
returns c = λ samples levels. ap (λ n. min n c.args.most)
    (rest-none (windows_of c.args.b samples) c.args.targets.now c.loop-place.place c.loop-place.sum (omega arith) (c.loop-place.invariant.rest samples levels))
