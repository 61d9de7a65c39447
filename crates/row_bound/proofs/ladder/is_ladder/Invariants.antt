use Rattle.row_bound.proofs.LadderLaws.{RisesTo}
use Rattle.row_bound.proofs.ladder.is_ladder.Given as goal

abbrev pub invariant-loop-step : goal.invariant-loop-step
invariant-loop-step l = RisesTo l.steps l.step-index l.last
