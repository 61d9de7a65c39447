use Rattle.std.proofs.Common.{suc}
use Rattle.open_cells.specs.Reach.{HasVisited, ReachesBySymbols}
use Rattle.open_cells.proofs.relaxing.add_symbols.Given as goal

abbrev pub invariant-loop-sym : goal.invariant-loop-sym
invariant-loop-sym g l = let m = g.M.Machine.rules l.machine in HasVisited m l.s (suc l.at.index) l.initial.made.items l.made.items (ReachesBySymbols m l.s l.at.index l.x l.head l.sym)
