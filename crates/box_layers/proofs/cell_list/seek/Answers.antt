use Rattle.std.proofs.Common.{sym, ◌∙◌, ap, arith, ◌≡◌, ◌+◌, ◌/◌, ◌-◌, true, false}
use Rattle.machine_core.specs.declared.boxes.Cell.{Cell}
use Rattle.box_layers.specs.Cells.{nth, before}
use Rattle.box_layers.proofs.Sorted.{seek-up, seek-down}
use Rattle.box_layers.proofs.cell_list.seek.Goals as goal

pub loop-low-preserved-then-is_before : goal.loop-low-preserved-then-is_before
loop-low-preserved-then-is_before g c =
    let mid = c.loop-low.low + (c.loop-low.high - c.loop-low.low) / 2 in
    let cells = g.L.CellList.listed c.args.list.now in
    let b : before (nth cells mid).cell c.args.c ≡ true = sym (c.is_before.ensures ∙ ap (λ (z : Cell). before z c.args.c) c.cell_at.ensures) ∙ c.if-is_before.true in
    record {
      order = omega arith;
      within = c.loop-low.invariant.within;
      below = seek-up cells c.args.c mid c.requires (omega arith) b;
      from = c.loop-low.invariant.from;
    }

pub loop-low-preserved : goal.loop-low-preserved
loop-low-preserved g c =
    let mid = c.loop-low.low + (c.loop-low.high - c.loop-low.low) / 2 in
    let cells = g.L.CellList.listed c.args.list.now in
    let b : before (nth cells mid).cell c.args.c ≡ false = sym (c.is_before.ensures ∙ ap (λ (z : Cell). before z c.args.c) c.cell_at.ensures) ∙ c.if-is_before.false in
    record {
      order = omega arith;
      within = omega arith;
      below = c.loop-low.invariant.below;
      from = seek-down cells c.args.c mid c.requires b;
    }
