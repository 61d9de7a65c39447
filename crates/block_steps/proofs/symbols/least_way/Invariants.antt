use Rattle.std.proofs.Common.{◌≡◌, ◌≤◌, drop}
use Rattle.machine_core.specs.Floors.{top}
use Rattle.box_layers.specs.Certificates.{least_piece, way}
use Rattle.block_steps.specs.Ways.{lane_certificate}
use Rattle.block_steps.proofs.symbols.least_way.Given as goal

abbrev pub invariant-loop-q : goal.invariant-loop-q
invariant-loop-q g l = let m = g.M.Machine.rules l.machine in
    let f = way m l.plan.targets.now (lane_certificate l.plan.level l.plan.blocks (g.C.LaneCells.listed l.cells)) l.at.index l.head in
    (least_piece (drop l.q-index l.pieces) f l.best ≡ least_piece l.pieces f top) × (l.best ≤ top)
