use Rattle.std.proofs.Common.{sym, ◌∙◌, ap, List, ◌≡◌, true, false}
use Rattle.box_layers.specs.declared.cell_value.CellValue.{CellValue}
use Rattle.box_layers.specs.declared.key.Key.{Key}
use Rattle.box_layers.specs.Cells.{value_of}
use Rattle.box_layers.specs.Keys.{key_same}
use Rattle.cert_check.proofs.LayerByLayer.{cells-first, cells-behind, cells-none}
use Rattle.cert_check.proofs.listed.listed_for.Goals as goal

pub returns-then-is_key_same : goal.returns-then-is_key_same
returns-then-is_key_same c =
    let y : key_same c.in-Some.first.layer.key c.args.key ≡ true = sym (c.is_key_same.ensures ∙ ap (λ (k : Key). key_same k c.args.key) c.key.ensures) ∙ c.if-is_key_same.true in
    c.look_up.ensures ∙ ap (λ (z : List CellValue). value_of z c.args.cell) (cells-first c.args.segment.now.layers c.args.segment.now.at c.in-Some.first c.args.key c.in-Some.ensures y)

pub returns-else-is_key_same : goal.returns-else-is_key_same
returns-else-is_key_same c =
    let n : key_same c.in-Some.first.layer.key c.args.key ≡ false = sym (c.is_key_same.ensures ∙ ap (λ (k : Key). key_same k c.args.key) c.key.ensures) ∙ c.if-is_key_same.false in
    c.listed_later.ensures ∙ ap (λ (z : List CellValue). value_of z c.args.cell) (cells-behind c.args.segment.now.layers c.args.segment.now.at c.in-Some.first c.args.key c.in-Some.ensures n)

pub returns-in-None : goal.returns-in-None
returns-in-None c = ap (λ (z : List CellValue). value_of z c.args.cell) (cells-none c.args.segment.now.layers c.args.segment.now.at c.args.key c.in-None.ensures)
