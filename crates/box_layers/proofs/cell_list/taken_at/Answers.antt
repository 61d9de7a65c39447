use Rattle.std.proofs.Common.{sym, ◌∙◌, ap, arith, ◌≡◌, true, false, Some}
use Rattle.machine_core.specs.declared.boxes.Cell.{Cell}
use Rattle.box_layers.specs.Cells.{nth, same_cell}
use Rattle.box_layers.specs.Bound.{past_of}
use Rattle.box_layers.proofs.Bounds.{listed-here, unlisted-here, unlisted-past}
use Rattle.box_layers.proofs.cell_list.taken_at.Goals as goal

pub returns-then-is_same : goal.returns-then-is_same
returns-then-is_same g c =
    let cells = g.L.CellList.listed c.args.list.now in
    let s : same_cell (nth cells c.args.i).cell c.args.c ≡ true = sym (c.is_same.ensures ∙ ap (λ (z : Cell). same_cell z c.args.c) c.cell_at.ensures) ∙ c.if-is_same.true in
    let h = listed-here cells c.args.c c.args.i c.requires.place (omega arith) s in
    record { value = ap Some c.value_at.ensures ∙ sym h; place = ap (past_of c.args.i) (sym h) }

pub returns-else-is_same : goal.returns-else-is_same
returns-else-is_same g c =
    let cells = g.L.CellList.listed c.args.list.now in
    let s : same_cell (nth cells c.args.i).cell c.args.c ≡ false = sym (c.is_same.ensures ∙ ap (λ (z : Cell). same_cell z c.args.c) c.cell_at.ensures) ∙ c.if-is_same.false in
    let h = unlisted-here cells c.args.c c.args.i c.requires.ascends c.requires.place (omega arith) s in
    record { value = sym h; place = ap (past_of c.args.i) (sym h) }

pub returns-else-i-count : goal.returns-else-i-count
returns-else-i-count g c =
    let h = unlisted-past (g.L.CellList.listed c.args.list.now) c.args.c c.args.i c.requires.place (omega arith) in
    record { value = sym h; place = ap (past_of c.args.i) (sym h) }
