use Rattle.std.proofs.Common.{arith, ap, ◌∙◌}
use Rattle.brr_machine.specs.Zero.{zero_head, nearest_codes, shift_sum}
use Rattle.brr_machine.proofs.ZeroSums.{found_best, sum_below}
use Rattle.brr_machine.proofs.zero.encode_zero.Goals as goal

pub returns-clause-head : goal.returns-clause-head
returns-clause-head c = ap zero_head (found_best c.args.targets.now c.loop-shift.shift c.loop-shift.best c.loop-shift.invariant.found (omega arith))

pub returns-clause-codes : goal.returns-clause-codes
returns-clause-codes c =
    c.loop-shift.invariant.codes
    ∙ ap (λ s. nearest_codes s c.args.targets.now) (found_best c.args.targets.now c.loop-shift.shift c.loop-shift.best c.loop-shift.invariant.found (omega arith))

pub returns-clause-sum : goal.returns-clause-sum
returns-clause-sum c =
    c.loop-shift.invariant.sum
    ∙ ap (shift_sum c.args.targets.now) (found_best c.args.targets.now c.loop-shift.shift c.loop-shift.best c.loop-shift.invariant.found (omega arith))

pub returns-clause-least : goal.returns-clause-least
returns-clause-least c = λ list legal.
    let sum = c.loop-shift.invariant.sum
    ∙ ap (shift_sum c.args.targets.now) (found_best c.args.targets.now c.loop-shift.shift c.loop-shift.best c.loop-shift.invariant.found (omega arith)) in
    sum_below c.args.targets.now list c.loop-shift.least (omega arith) legal sum
