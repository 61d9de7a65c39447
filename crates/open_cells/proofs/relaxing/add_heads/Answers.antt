use Rattle.std.proofs.Common.{arith, sym, ◌∙◌, ap}
use Rattle.open_cells.proofs.Fronts.{headed-more, headed-not, headed-now, node-cell}
use Rattle.open_cells.proofs.relaxing.add_heads.Goals as goal
use Rattle.open_cells.proofs.relaxing.add_heads.Goals.{then-takes+in-Ok, else-takes}
use Rattle.open_cells.proofs.Pieces.{laws-of}

pub add_symbols-requires-clause-cell : goal.add_symbols-requires-clause-cell
add_symbols-requires-clause-cell g c =
    let m = g.M.Machine.rules c.args.machine.now in
    node-cell m c.args.s.now c.args.at.index c.args.x (laws-of m (g.met.M.Machine.lawful c.args.machine.now) (g.met.M.Machine.boxed c.args.machine.now) c.requires.search) c.requires.search c.requires.x

pub loop-h-preserved : goal.loop-h-preserved
loop-h-preserved g c =
    let m = g.M.Machine.rules c.args.machine.now in let s = c.args.s.now in let i = c.args.at.index in
    elim c.if-takes.branch [
      | then-takes+in-Ok w ↦ headed-now m s i c.args.x _ _ _ _ (ap (λ z. z.items) w.made-is)
          (headed-more m s i c.args.x _ _ _ c.loop-h.h c.loop-h.invariant w.in-Ok.ensures.visited.opened w.in-Ok.ensures.visited.kept w.in-Ok.ensures.visited.reached)
      | else-takes w ↦ headed-now m s i c.args.x _ _ _ _ (ap (λ z. z.items) w.made-is)
          (headed-not m s i c.args.x _ _ c.loop-h.h c.loop-h.invariant (sym c.takes.ensures ∙ w.if-takes.false))
    ]

pub returns-clause-visited : goal.returns-clause-visited
returns-clause-visited g c =
    let f = c.heads-h-end.ensures in let t = c.loop-h-test.false in
    let v = c.loop-h.invariant in
    record { opened = v.opened; kept = v.kept; reached = λ head h. v.reached head (omega arith) }
