use Rattle.std.proofs.Common.{◌≡◌, ◌∙◌, ap, arith, length, List, IfOk, subst, sym}
use Rattle.std.specs.Prelude.{Vec}
use Rattle.std.specs.declared.alloc.Global.{Global}
use Rattle.std.proofs.lemmas.List.{length-map}
use Rattle.open_cells.specs.Counts.{nodes_at}
use Rattle.open_cells.specs.declared.node.Node.{Node}
use Rattle.open_cells.specs.Rows.{row_in}
use Rattle.open_cells.proofs.Built.{nodes-past}
use Rattle.open_cells.proofs.RowLaws.{row-at}
use Rattle.open_cells.proofs.sample_cells.SampleCells.row.Goals as goal

pub returns-then-i-len : goal.returns-then-i-len
returns-then-i-len c =
    let rows = c.self.inside.rows.items in let layers = c.self.inside.layers in
    let e = ap (row_in layers) c.index.ensures ∙ (row-at layers rows c.args.i _ (let l = c.len.ensures in let t = c.if-i-len.true in omega arith) ∙ ap (λ z. nodes_at z c.args.i) c.self.view_is) in
    subst (λ (z : List Node). IfOk c.nodes_of_row.result (λ (v : Vec Node Global). v.items ≡ z)) e c.nodes_of_row.ensures

pub returns-else-i-len : goal.returns-else-i-len
returns-else-i-len c =
    let n = length-map c.self.inside.rows.items (row_in c.self.inside.layers) in let v = ap (length {A = List Node}) c.self.view_is in
    c.new.ensures.items ∙ sym (nodes-past c.args.self.now c.args.i (let l = c.len.ensures in let f = c.if-i-len.false in omega arith))
