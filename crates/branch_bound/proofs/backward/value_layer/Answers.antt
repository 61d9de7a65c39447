use Rattle.open_cells.proofs.Merging.{blank}
use Rattle.branch_bound.proofs.Values.{cell-here}
use Rattle.open_cells.proofs.Pieces.{laws-of}
use Rattle.branch_bound.proofs.backward.value_layer.Goals as goal

pub worth_at-worth-requires-clause-cell : goal.worth_at-worth-requires-clause-cell
worth_at-worth-requires-clause-cell g c =
    let m = g.M.Machine.rules c.args.machine.now in
    cell-here m c.args.s.now c.args.at.index c.loop-x.x-index c.args.front.now blank (laws-of m (g.met.M.Machine.lawful c.args.machine.now) (g.met.M.Machine.boxed c.args.machine.now) c.requires.search) c.requires.search c.requires.front.opened c.loop-x-test.true
