use Rattle.std.proofs.Common.{ℕ, suc, ◌<◌, get_or, List}
use Rattle.open_cells.specs.declared.node.Node.{Node}
use Rattle.open_cells.specs.Reach.{HasVisited, Reaches}
use Rattle.open_cells.proofs.relaxing.add_pieces.Given as goal
use Rattle.machine_core.specs.declared.pieces.Piece.{Piece}

abbrev pub invariant-loop-q : goal.invariant-loop-q
invariant-loop-q g l =
    let m = g.M.Machine.rules l.machine in
    HasVisited m l.s (suc l.at.index) l.initial.made.items l.made.items (λ (z : List Node). (k : ℕ) → k < l.q-index → (d : Piece) → Reaches m l.s l.at.index l.x (get_or l.pieces k d) l.lane z)
