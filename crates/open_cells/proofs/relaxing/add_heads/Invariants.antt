use Rattle.std.proofs.Common.{suc}
use Rattle.open_cells.specs.Reach.{HasVisited, ReachesByHeads}
use Rattle.open_cells.proofs.relaxing.add_heads.Given as goal

abbrev pub invariant-loop-h : goal.invariant-loop-h
invariant-loop-h g l = let m = g.M.Machine.rules l.machine in HasVisited m l.s (suc l.at.index) l.initial.made.items l.made.items (ReachesByHeads m l.s l.at.index l.x l.h)
