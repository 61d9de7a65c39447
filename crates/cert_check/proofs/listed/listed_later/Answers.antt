use Rattle.std.proofs.Common.{◌∙◌, ap, List}
use Rattle.std.specs.Prelude.{Option}
use Rattle.box_layers.specs.declared.cell_value.CellValue.{CellValue}
use Rattle.bound_cert.specs.Content.{Here}
use Rattle.box_layers.specs.Cells.{value_of}
use Rattle.cert_check.specs.Layers.{cells_here}
use Rattle.cert_check.proofs.Steps.{found-cells}
use Rattle.cert_check.proofs.listed.listed_later.Goals as goal

pub returns-in-Some : goal.returns-in-Some
returns-in-Some c = c.look_up.ensures ∙ ap (λ (z : List CellValue). value_of z c.args.cell) (ap (λ (z : Option Here). cells_here z) c.in-Some.ensures ∙ found-cells _ c.args.first.now.later c.args.key)

pub returns-in-None : goal.returns-in-None
returns-in-None c = ap (λ (z : List CellValue). value_of z c.args.cell) (ap (λ (z : Option Here). cells_here z) c.in-None.ensures ∙ found-cells _ c.args.first.now.later c.args.key)
