use Rattle.std.proofs.Common.{sym}
use Rattle.box_layers.proofs.Pairs.{length-paired}
use Rattle.box_layers.proofs.layer.LayerCellList.count.Goals as goal

pub returns : goal.returns
returns c = sym (length-paired c.args.self.now.cells.now c.args.self.now.values.now c.args.self.now.same_length)
