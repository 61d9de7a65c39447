use Rattle.std.proofs.Common.{arith, ◌<◌, length, rules}
use Rattle.box_layers.proofs.Pairs.{length-paired, cell-paired}
use Rattle.box_layers.proofs.layer.LayerCellList.cell_at.Goals as goal

pub bounds-self-i : goal.bounds-self-i
bounds-self-i c = let count = length-paired c.args.self.now.cells.now c.args.self.now.values.now c.args.self.now.same_length in let within = c.requires in omega (arith, count, within)

pub offset_bounds-self-i : goal.offset_bounds-self-i
offset_bounds-self-i c =
    let count = length-paired c.args.self.now.cells.now c.args.self.now.values.now c.args.self.now.same_length in
    let within = c.requires in
    let fits : c.args.i < length c.args.self.now.cells.now = omega (arith, count, within) in search rules

pub returns : goal.returns
returns c =
    let count = length-paired c.args.self.now.cells.now c.args.self.now.values.now c.args.self.now.same_length in
    let within = c.requires in
    cell-paired c.args.self.now.cells.now c.args.self.now.values.now c.args.i _ c.args.self.now.same_length (omega (arith, count, within))
