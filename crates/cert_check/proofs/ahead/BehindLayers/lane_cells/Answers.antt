use Rattle.std.proofs.Common.{◌∙◌, ap, List}
use Rattle.std.specs.Prelude.{Option}
use Rattle.box_layers.specs.declared.cell_value.CellValue.{CellValue}
use Rattle.box_layers.specs.Cells.{value_of}
use Rattle.bound_cert.specs.Content.{Here}
use Rattle.cert_check.specs.Layers.{cells_here}
use Rattle.cert_check.proofs.Steps.{found-cells}
use Rattle.cert_check.proofs.ahead.BehindLayers.lane_cells.Goals as goal

pub returns : goal.returns
returns c = ap (λ (z : List CellValue). value_of z) (ap (λ (z : Option Here). cells_here z) c.later_layer.ensures ∙ found-cells _ c.args.self.now.here.now.later c.args.key)
