use Rattle.std.proofs.Common.{◌∙◌, arith}
use Rattle.bound_cert.proofs.CellPlaces.{cell-lies, cell-is}
use Rattle.bound_cert.proofs.layer.LayerView.cell.Goals as goal

pub value_in-requires : goal.value_in-requires
value_in-requires c = let lies = cell-lies c.self.inside.bytes.now c.self.inside.at c.self.inside.left c.args.i _ c.self.view_is c.self.invariant c.requires in omega (arith, lies)

pub returns : goal.returns
returns c = c.value_in.ensures ∙ cell-is c.self.inside.bytes.now c.self.inside.at c.self.inside.left c.args.i _ c.self.view_is c.requires
