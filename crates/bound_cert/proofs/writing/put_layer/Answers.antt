use Rattle.std.proofs.Common.{sym, subst, List}
use Rattle.std.proofs.lemmas.Option.{slice_get-get_or}
use Rattle.box_layers.specs.declared.cell_value.CellValue.{CellValue}
use Rattle.bound_cert.specs.Small.{SmallCells}
use Rattle.bound_cert.proofs.writing.put_layer.Goals as goal

pub put_cell-requires : goal.put_cell-requires
put_cell-requires c =
    let h : SmallCells c.cells-cells.result.now = subst (λ (z : List CellValue). SmallCells z) (sym c.cells-cells.ensures) c.requires.cells in
    h c.loop-c.c-index _ (slice_get-get_or c.cells-cells.result.now c.loop-c.c-index _ c.loop-c-test.true)
