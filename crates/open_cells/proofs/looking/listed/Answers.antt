use Rattle.std.proofs.Common.{arith, sym, ◌∙◌}
use Rattle.open_cells.proofs.Look.{listed-none, listed-here, none-at}
use Rattle.open_cells.proofs.Order.{same-place}
use Rattle.open_cells.proofs.Merging.{blank}
use Rattle.open_cells.proofs.looking.listed.Goals as goal
use Rattle.open_cells.proofs.looking.listed.Goals.{else-i-nodes-via-then-i-nodes+else-rank_in-at, else-i-nodes-via-else-i-nodes}

pub returns-then-rank_in-at : goal.returns-then-rank_in-at
returns-then-rank_in-at c =
    let xs = c.args.nodes.now in
    let e = sym c.rank_in.ensures.value ∙ (c.if-rank_in-at.true ∙ c.rank_at-at.ensures.value) in
    let p = same-place _ _ _ _ c.rank_in.ensures.fits c.rank_at-at.ensures.fits e in
    let v = c.rank_at-at.ensures.value in
    sym (listed-here xs c.args.lane c.args.cell c.first_from-i.result blank c.if-i-nodes.true
    (λ k d l q. (let b = c.first_from-i.ensures.below k d l in omega arith)) p.0 p.1)

pub returns-else-i-nodes : goal.returns-else-i-nodes
returns-else-i-nodes c =
    let xs = c.args.nodes.now in
    let i = c.first_from-i.result in
    sym (listed-none xs c.args.lane c.args.cell
    (elim c.else-i-nodes.branch [
      | else-i-nodes-via-then-i-nodes+else-rank_in-at w ↦ none-at xs i _ _ blank c.requires c.rank_at-at.ensures.value c.first_from-i.ensures.below c.first_from-i.ensures.above
          (λ e. w.if-rank_in-at.false (w.rank_in.ensures.value ∙ e))
      | else-i-nodes-via-else-i-nodes w ↦ (λ k d l q. (let v = c.rank_at-at.ensures.value in let n = w.if-i-nodes.false in let b = c.first_from-i.ensures.below k d (omega arith) in omega arith))
    ]))
