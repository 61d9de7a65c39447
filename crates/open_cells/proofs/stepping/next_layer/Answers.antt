use Rattle.open_cells.proofs.Fronts.{layer-of}
use Rattle.open_cells.proofs.stepping.next_layer.Goals as goal

pub returns-clause-layer : goal.returns-clause-layer
returns-clause-layer g c =
    layer-of (g.M.Machine.rules c.args.machine.now) c.args.s.now c.args.at.index c.args.front.now c.add_front.new.made.items c.merge.new.made.items c.requires.front c.in-Ok.ensures.visited.reached c.in-Ok.ensures.visited.opened c.in-Ok-merge.ensures.merged
