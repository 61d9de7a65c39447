use Rattle.std.proofs.Common.{suc}
use Rattle.open_cells.specs.Reach.{HasVisited, ReachesFrom}
use Rattle.open_cells.proofs.stepping.add_front.Given as goal

abbrev pub invariant-loop-x : goal.invariant-loop-x
invariant-loop-x g l = let m = g.M.Machine.rules l.machine in HasVisited m l.s (suc l.at.index) l.initial.made.items l.made.items (ReachesFrom m l.s l.at.index l.front l.x-index)
