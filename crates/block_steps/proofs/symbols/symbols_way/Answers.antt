use Rattle.std.proofs.Common.{refl, arith}
use Rattle.block_steps.specs.Ways.{lane_certificate}
use Rattle.block_steps.proofs.Capped.{symbols-init, symbols-done}
use Rattle.block_steps.proofs.symbols.symbols_way.Goals as goal

pub loop-sym-init : goal.loop-sym-init
loop-sym-init g c =
    let m = g.M.Machine.rules c.args.machine.now in
    let p = c.args.plan.now in
    let i = symbols-init m (g.met.M.Machine.lawful c.args.machine.now) (g.met.M.Machine.boxed c.args.machine.now) p c.args.at (lane_certificate p.level p.blocks (g.C.LaneCells.listed c.args.cells.now)) c.args.cell c.args.head c.args.slack c.symbols_within-first.result.0 c.requires.from refl
    c.requires.head c.requires.slack c.symbols_within-first.ensures.first in
    record { best = i.0; within = i.1 }

pub returns : goal.returns
returns g c =
    let m = g.M.Machine.rules c.args.machine.now in
    let p = c.args.plan.now in
    symbols-done m (g.met.M.Machine.lawful c.args.machine.now) (g.met.M.Machine.boxed c.args.machine.now) p c.args.at (lane_certificate p.level p.blocks (g.C.LaneCells.listed c.args.cells.now)) c.args.cell c.args.head c.args.slack c.symbols_within-first.result.1 c.loop-sym.sym c.loop-sym.best c.requires.from
    refl c.requires.head c.requires.slack c.symbols_within-first.ensures.end (omega arith) c.loop-sym.invariant.within c.loop-sym.invariant.best
