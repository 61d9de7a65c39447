use Rattle.std.proofs.Common.{◌++◌, ◌∷◌, [], arith, length, map, ap, ◌∙◌, subst, sym, List}
use Rattle.open_cells.specs.declared.row.Row.{Row}
use Rattle.open_cells.specs.Rows.{AreWithin, row_in}
use Rattle.open_cells.proofs.RowLaws.{grows-long, rows-kept, rows-more, within-more}
use Rattle.open_cells.proofs.sample_cells.SampleCells.push.Goals as goal

pub returns-in-Err-clause-err : goal.returns-in-Err-clause-err
returns-in-Err-clause-err c = rows-kept c.self.inside.layers c.put_row.new.layers c.self.inside.rows.items c.put_row.ensures.grows c.self.invariant.1 ∙ c.self.view_is

pub returns-in-Err-push-clause-err : goal.returns-in-Err-push-clause-err
returns-in-Err-push-clause-err c =
    ap (map (row_in c.put_row.new.layers)) c.in-Err-push.ensures.items ∙ (rows-kept c.self.inside.layers c.put_row.new.layers c.self.inside.rows.items c.put_row.ensures.grows c.self.invariant.1 ∙ c.self.view_is)

pub invariant_of-self-2 : goal.invariant_of-self-2
invariant_of-self-2 c =
    let n = c.len-from.ensures.len in let m = c.len-end.ensures.len in
    let long = grows-long c.self.inside.layers c.put_row.new.layers c.put_row.ensures.grows in (
      c.put_row.ensures.numbered,
      subst (λ (z : List Row). AreWithin (length c.put_row.new.layers) z) (sym c.in-Ok-push.ensures.items)
          (within-more (length c.self.inside.layers) (length c.put_row.new.layers) c.self.inside.rows.items _ long (omega arith) (omega arith) c.self.invariant.1),
    )

pub returns-clause-ok : goal.returns-clause-ok
returns-clause-ok c =
    let n = c.len-from.ensures.len in let m = c.len-end.ensures.len in
    rows-more c.self.inside.layers c.put_row.new.layers c.self.inside.rows.items c.push.new.self.items c.args.nodes.now _ c.in-Ok-push.ensures.items c.put_row.ensures.grows c.self.invariant.1 c.in-Ok.ensures.nodes n m
    ∙ ap (λ z. z ++ c.args.nodes.now ∷ []) c.self.view_is
