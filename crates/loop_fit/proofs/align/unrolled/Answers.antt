use Rattle.std.proofs.Common.{◌≡◌, ◌*◌, ◌%◌, arith}
use Rattle.loop_fit.proofs.Unrolling.{is_unroll_of, whole_rounds}
use Rattle.loop_fit.proofs.align.unrolled.Goals as goal

pub returns-then-from-eq0-clause-value : goal.returns-then-from-eq0-clause-value
returns-then-from-eq0-clause-value c =
    let whole : (c.loop-rounds.rounds * c.args.len) % c.args.block ≡ 0 = (cc) in
    is_unroll_of c.args.block c.args.len c.loop-rounds.rounds (omega arith) (omega arith) whole c.loop-rounds.invariant

pub returns-clause-value : goal.returns-clause-value
returns-clause-value c =
    is_unroll_of c.args.block c.args.len c.args.block (omega arith) (omega arith) (whole_rounds c.args.block c.args.len) (λ j some fewer. c.loop-rounds.invariant j some (omega arith))
