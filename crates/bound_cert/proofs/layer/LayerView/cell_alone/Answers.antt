use Rattle.std.proofs.Common.{◌∙◌, ap, length, arith, ◌+◌, rules, ◌*◌, ◌<◌}
use Rattle.box_layers.specs.declared.cell_value.CellValue.{CellValue}
use Rattle.bound_cert.proofs.CellPlaces.{cell-lies, cell-is}
use Rattle.bound_cert.proofs.layer.LayerView.cell_alone.Goals as goal

pub cell_in-requires : goal.cell_in-requires
cell_in-requires c = let lies = cell-lies c.self.inside.bytes.now c.self.inside.at c.self.inside.left c.args.i _ c.self.view_is c.self.invariant c.requires in omega (arith, lies)

pub overflow_mul-i : goal.overflow_mul-i
overflow_mul-i c =
    let lies = cell-lies c.self.inside.bytes.now c.self.inside.at c.self.inside.left c.args.i _ c.self.view_is c.self.invariant c.requires in
    let small : 12 * c.args.i < length c.self.inside.bytes.now = omega (arith, lies) in search rules

pub overflow_add-self-inside-2 : goal.overflow_add-self-inside-2
overflow_add-self-inside-2 c =
    let lies = cell-lies c.self.inside.bytes.now c.self.inside.at c.self.inside.left c.args.i _ c.self.view_is c.self.invariant c.requires in
    let small : c.self.inside.at + 10 + 12 * c.args.i < length c.self.inside.bytes.now = omega (arith, lies) in search rules

pub returns : goal.returns
returns c = c.cell_in.ensures ∙ ap (λ (v : CellValue). v.cell) (cell-is c.self.inside.bytes.now c.self.inside.at c.self.inside.left c.args.i _ c.self.view_is c.requires)
