use Rattle.std.proofs.Common.{◌<◌, ◌%◌, arith}
use Rattle.open_cells.proofs.Fronts.{node-cell, lane-reaches}
use Rattle.open_cells.proofs.Pieces.{on-ok}
use Rattle.open_cells.proofs.relaxing.add_node.Goals as goal
use Rattle.open_cells.proofs.Pieces.{laws-of}

pub add_symbols-requires-clause-cell : goal.add_symbols-requires-clause-cell
add_symbols-requires-clause-cell g c =
    let m = g.M.Machine.rules c.args.machine.now in
    node-cell m c.args.s.now c.args.at.index c.args.x (laws-of m (g.met.M.Machine.lawful c.args.machine.now) (g.met.M.Machine.boxed c.args.machine.now) c.requires.search) c.requires.search c.requires.x

pub returns-in-Some-clause-visited : goal.returns-in-Some-clause-visited
returns-in-Some-clause-visited g c =
    let m = g.M.Machine.rules c.args.machine.now in
    let p = c.requires.at.place in let ne = c.if-at-eq0.false in
    let later : 0 < c.args.at.index % m.decoder.samples = omega arith in
    let laws = laws-of m (g.met.M.Machine.lawful c.args.machine.now) (g.met.M.Machine.boxed c.args.machine.now) c.requires.search in
    on-ok c.add_symbols.result c.add_symbols.ensures.visited (λ v. record {
      opened = v.opened;
      kept = v.kept;
      reached = lane-reaches m c.args.s.now c.args.at.index c.in-Some.head c.args.x c.add_symbols.new.made.items laws later c.in-Some.ensures.some.0 c.in-Some.ensures.some.1 v.reached;
    })
