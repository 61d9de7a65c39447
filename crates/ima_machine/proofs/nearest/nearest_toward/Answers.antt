use Rattle.std.proofs.Common.{◌≤◌, ◌+◌, arith}
use Rattle.ima_machine.specs.Steps.{distance_of}
use Rattle.ima_machine.specs.Nearest.{miss_toward}
use Rattle.ima_machine.proofs.Ladders.{stays-nearest, moves-nearest}
use Rattle.ima_machine.proofs.NearestCodes.{distances-rise}
use Rattle.ima_machine.proofs.nearest.nearest_toward.Goals as goal
use Rattle.ima_machine.proofs.nearest.nearest_toward.Goals.{else-code-lt7-via-then-code-lt7+else-miss_toward, else-code-lt7-via-else-code-lt7}

pub returns-then-miss_toward : goal.returns-then-miss_toward
returns-then-miss_toward c =
    moves-nearest (distance_of c.args.step) c.args.gap c.args.room c.last_within-code.result (distances-rise c.args.step c.requires.low) c.last_within-code.ensures c.if-code-lt7.true
    (omega (arith, c.miss_toward.ensures, c.miss_toward-then-code-lt7.ensures, c.if-miss_toward.true))

pub returns-else-code-lt7 : goal.returns-else-code-lt7
returns-else-code-lt7 c =
    let d = distance_of c.args.step in
    let code = c.last_within-code.result in
    elim c.else-code-lt7.branch [
      | else-code-lt7-via-then-code-lt7+else-miss_toward w ↦
          stays-nearest d c.args.gap c.args.room code (distances-rise c.args.step c.requires.low) c.last_within-code.ensures
          (λ more. omega (arith, w.miss_toward.ensures, w.miss_toward-then-code-lt7.ensures, w.if-miss_toward.false))
      | else-code-lt7-via-else-code-lt7 w ↦
          stays-nearest d c.args.gap c.args.room code (distances-rise c.args.step c.requires.low) c.last_within-code.ensures (λ more. absurd (omega (arith, more, w.if-code-lt7.false)))
    ]
