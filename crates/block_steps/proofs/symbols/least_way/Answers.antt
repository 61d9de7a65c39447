use Rattle.std.proofs.Common.{◌∙◌, ap, arith, ◌≡◌, ◌≤◌, min, ◌+◌, drop, get_or}
use Rattle.machine_core.specs.declared.pieces.Piece.{Piece}
use Rattle.machine_core.specs.Floors.{top}
use Rattle.box_layers.specs.Certificates.{way, least_piece}
use Rattle.block_steps.specs.Ways.{lane_certificate}
use Rattle.block_steps.proofs.Looks.{piece-more}
use Rattle.block_steps.proofs.symbols.least_way.Goals as goal

pub loop-q-preserved : goal.loop-q-preserved
loop-q-preserved g c =
    let m = g.M.Machine.rules c.args.machine.now in
    let p = c.args.plan.now in
    let f = way m p.targets.now (lane_certificate p.level p.blocks (g.C.LaneCells.listed c.args.cells.now)) c.args.at.index c.args.head in
    let z = c.q-item.result in
    let a = c.way_after.ensures in let b = c.saturating_add.ensures in let d = c.min-best.ensures in
    let small : c.loop-q.best ≤ top = c.loop-q.invariant.1 in
    let here : c.min-best.result ≡ min c.loop-q.best (min (f z) top) = d ∙ ap (min c.loop-q.best) (b ∙ ap (λ y. min (z.cost + y) top) a) in
    let e : c.min-best.result ≡ min c.loop-q.best (min (f (get_or c.args.pieces.now c.loop-q.q-index z)) top) = here ∙ ap (λ (q : Piece). min c.loop-q.best (min (f q) top)) c.q-item.is in
    (ap (least_piece (drop (c.loop-q.q-index + 1) c.args.pieces.now) f) e ∙ (piece-more c.args.pieces.now f c.loop-q.q-index c.loop-q.best z c.loop-q-test.true small ∙ c.loop-q.invariant.0), omega (arith, d))
