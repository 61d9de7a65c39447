use Rattle.std.proofs.Common.{arith}
use Rattle.machine_core.proofs.Places.{block-below}
use Rattle.open_cells.proofs.layers.ready.Goals as goal

pub targets_in-requires-clause-block : goal.targets_in-requires-clause-block
targets_in-requires-clause-block g c =
    let m = g.M.Machine.rules c.args.machine.now in
    let b = c.requires.at.block in
    let lt = block-below c.args.at.index m.decoder.samples c.args.blocks c.requires.within in omega arith
