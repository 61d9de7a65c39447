-- What is known of a clamped result is more than that it is one of the two outputs of clamping.
use Rattle.std.specs.Prelude.{ℤ}
use Rattle.window_floor.specs.Outcome.{IsOutcome, clamped_first, clamped_second, filtered}
use Rattle.window_floor.specs.Windows.{Windows}
use Rattle.window_floor.specs.Clamps.{MayCome, over, under, inside}

pub outcome-of : (b : Windows) (r o y : ℤ) → MayCome b r o y → IsOutcome b.row b.samples b.first b.second r o y
outcome-of b r o y (over raw is above e) = clamped_first e
outcome-of b r o y (under raw is below e) = clamped_second e
outcome-of b r o y (inside raw k is wrap e) = filtered is.code is.rounding k raw is.within is.rounds wrap is.is e
