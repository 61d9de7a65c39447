use Rattle.std.proofs.Common.{ℕ, get_or, subst}
use borrow.Author.Count.{below_more}
use Rattle.open_cells.proofs.Merging.{keeps-trans}
use Rattle.open_cells.specs.Reach.{Reaches}
use Rattle.open_cells.proofs.Pieces.{reaches-kept, reaches-at}
use Rattle.open_cells.proofs.relaxing.add_pieces.Goals as goal
use Rattle.machine_core.specs.declared.pieces.Piece.{Piece}

pub loop-q-preserved : goal.loop-q-preserved
loop-q-preserved g c =
    let m = g.M.Machine.rules c.args.machine.now in let s = c.args.s.now in let i = c.args.at.index in let n = c.loop-q.q-index in
    let v = c.in-Ok.ensures.visited in let k = v.kept in
    record {
      opened = v.opened;
      kept = keeps-trans _ _ _ c.loop-q.invariant.kept k;
      reached = below_more (λ (j : ℕ). (d : Piece) → Reaches m s i c.args.x (get_or c.args.pieces.now j d) c.args.lane c.add_piece.new.made.items) n
          (λ j h d. reaches-kept m s i c.args.lane c.args.x (get_or c.args.pieces.now j d) _ _ k (c.loop-q.invariant.reached j h d))
          (λ d. reaches-at m s i c.args.lane c.args.x c.args.pieces.now n _ c.q-item.result d c.loop-q-test.true (subst (λ (z : Piece). Reaches m s i c.args.x z c.args.lane c.add_piece.new.made.items) c.q-item.is v.reached));
    }
