use Rattle.std.proofs.Common.{◌∙◌, ap, length, arith, ◌+◌, rules, ◌<◌, ◌*◌, ◌≡◌}
use Rattle.bound_cert.specs.Places.{u64_at}
use Rattle.box_layers.specs.declared.cell_value.CellValue.{CellValue}
use Rattle.bound_cert.proofs.CellPlaces.{cell-lies, cell-is}
use Rattle.bound_cert.proofs.layer.LayerView.value_alone.Goals as goal

pub u64_in-requires : goal.u64_in-requires
u64_in-requires c = let lies = cell-lies c.self.inside.bytes.now c.self.inside.at c.self.inside.left c.args.i _ c.self.view_is c.self.invariant c.requires in omega (arith, lies)

pub overflow_mul-i : goal.overflow_mul-i
overflow_mul-i c =
    let lies = cell-lies c.self.inside.bytes.now c.self.inside.at c.self.inside.left c.args.i _ c.self.view_is c.self.invariant c.requires in
    let small : 12 * c.args.i < length c.self.inside.bytes.now = omega (arith, lies) in search rules

pub overflow_add-self-inside-2 : goal.overflow_add-self-inside-2
overflow_add-self-inside-2 c =
    let lies = cell-lies c.self.inside.bytes.now c.self.inside.at c.self.inside.left c.args.i _ c.self.view_is c.self.invariant c.requires in
    let small : c.self.inside.at + 14 + 12 * c.args.i < length c.self.inside.bytes.now = omega (arith, lies) in search rules

pub returns : goal.returns
returns c =
    let place : c.self.inside.at + 14 + 12 * c.args.i ≡ c.self.inside.at + 10 + 12 * c.args.i + 4 = omega arith in
    c.u64_in.ensures ∙ (ap (u64_at c.self.inside.bytes.now) place ∙ ap (λ (v : CellValue). v.value) (cell-is c.self.inside.bytes.now c.self.inside.at c.self.inside.left c.args.i _ c.self.view_is c.requires))
