use Rattle.std.proofs.Common.{ap, ◌∙◌, ◌≡◌, arith}
use Rattle.adpcm_nums.specs.LeastValue.{least}
use Rattle.machine_core.specs.Floors.{top}
use Rattle.box_layers.specs.Cells.{value_of}
use Rattle.box_layers.specs.Looking.{or_else, cell_near, span_count}
use Rattle.box_layers.proofs.Seeing.{row-more}
use Rattle.box_layers.proofs.looking.see_cells.Goals as goal

pub loop-x-preserved : goal.loop-x-preserved
loop-x-preserved g c =
    let cells = g.L.CellList.listed c.args.list.now in record {
      small = c.see_row-seen.ensures.small;
      seen = λ r q. row-more cells c.args.low c.loop-x.x (span_count c.args.low.b c.args.high.b) c.columns_of-width.result r c.loop-x.seen c.see_row-seen.result c.columns_of-width.ensures.value c.loop-x.invariant.small q
          (c.loop-x.invariant.seen r q) (c.see_row-seen.ensures.seen r);
    }

pub returns : goal.returns
returns g c = λ r q.
    (let cells = g.L.CellList.listed c.args.list.now in
    let e : c.loop-x.x ≡ c.rows_of-x-end.result = omega arith in
    c.loop-x.invariant.seen r q ∙ ap (λ n. least n (λ x. least (span_count c.args.low.b c.args.high.b) (λ y. or_else (value_of cells (cell_near c.args.low x y)) r) top) top) (e ∙ c.rows_of-x-end.ensures.value))
