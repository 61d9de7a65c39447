use Rattle.std.proofs.Common.{◌≡◌, ◌<◌, ◌+◌, length}
use Rattle.strong_bound.specs.Quiet.{HoldsRests}
use Rattle.strong_bound.proofs.suffixes.raise_rests.Given as goal

abbrev pub invariant-loop-place : goal.invariant-loop-place
invariant-loop-place g l =
    let d = (g.M.Machine.rules l.machine).decoder in record {
      within : l.place < d.samples;
      size : length l.table ≡ d.samples + 1;
      rests : HoldsRests d l.targets l.twice l.head l.table;
    }

abbrev pub decreases-loop-place : goal.decreases-loop-place
decreases-loop-place g l = l.place
