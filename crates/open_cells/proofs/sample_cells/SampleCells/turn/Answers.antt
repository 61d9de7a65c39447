use Rattle.std.proofs.Common.{List, ap, length, map, subst, sym, ◌∙◌}
use Rattle.std.specs.Prelude.{reverse}
use Rattle.open_cells.specs.declared.row.Row.{Row}
use Rattle.open_cells.specs.Rows.{AreWithin, row_in}
use Rattle.open_cells.proofs.RowLaws.{rows-turned, within-turned}
use Rattle.open_cells.proofs.sample_cells.SampleCells.turn.Goals as goal

pub returns : goal.returns
returns c =
    ap (map (row_in c.self.inside.layers)) c.turn_rows.ensures ∙ (rows-turned c.self.inside.layers c.self.inside.rows.items ∙ ap reverse c.self.view_is)

pub invariant_of-self : goal.invariant_of-self
invariant_of-self c = (c.self.invariant.0, subst (λ (z : List Row). AreWithin (length c.self.inside.layers) z) (sym c.turn_rows.ensures) (within-turned (length c.self.inside.layers) c.self.inside.rows.items c.self.invariant.1))
