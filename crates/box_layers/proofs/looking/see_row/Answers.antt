use Rattle.std.proofs.Common.{ap, ◌∙◌}
use Rattle.machine_core.specs.declared.boxes.Cell.{Cell}
use Rattle.box_layers.specs.Cells.{value_of}
use Rattle.box_layers.specs.Bound.{past_of}
use Rattle.box_layers.specs.Looking.{ended}
use Rattle.box_layers.proofs.Seeing.{place-more, seen-more}
use Rattle.box_layers.proofs.looking.see_row.Goals as goal

pub loop-y-preserved : goal.loop-y-preserved
loop-y-preserved g c =
    let cells = g.L.CellList.listed c.args.list.now in
    let p = c.taken_at-listed.ensures.place ∙ ap (λ (z : Cell). past_of c.loop-y.at (value_of cells z)) c.near-in-loop-y.ensures in
    let v = c.taken_at-listed.ensures.value ∙ ap (λ (z : Cell). value_of cells z) c.near-in-loop-y.ensures in
    record {
      place = place-more cells c.args.low c.args.x c.loop-y.y c.loop-y.at c.taken_at-listed.result.1 c.requires.ascends c.loop-y.invariant.place p;
      small = c.see-seen.ensures.small;
      seen = λ r. seen-more cells c.args.low c.args.x c.loop-y.y r (ended c.args.seen r) c.loop-y.seen c.see-seen.result c.taken_at-listed.result.0 (c.loop-y.invariant.seen r) v c.see-seen.ensures.value;
    }
