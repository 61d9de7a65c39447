use Rattle.std.proofs.Common.{List, ◌++◌, ◌∙◌, ap, arith, sym}
use Rattle.std.specs.Prelude.{drop, take}
use Rattle.open_cells.specs.declared.node.Node.{Node}
use Rattle.open_cells.specs.Rows.{nodes_in, nodes_of, row_in}
use Rattle.open_cells.proofs.RowLaws.{row-begins, row-taken}
use Rattle.open_cells.proofs.sample_cells.nodes_of_row.Goals as goal

pub loop-k-init : goal.loop-k-init
loop-k-init c = record { from = omega arith; end = c.requires.order; nodes = c.new-nodes.ensures.items ∙ sym (row-begins c.args.layers.now c.args.row.from (let a = c.requires.order in let b = c.requires.within in omega arith)) }

pub loop-k-preserved : goal.loop-k-preserved
loop-k-preserved c =
    let i = c.loop-k.invariant in let t = c.loop-k-test.true in record {
      from = (let a = i.from in omega arith);
      end = (let a = c.loop-k.auto.k-end in omega arith);
      nodes = c.in-Ok.ensures ∙ (ap (λ (z : List Node). z ++ nodes_in c.at.result.key.lane c.at.result.cells.now c.at.result.values.now) i.nodes ∙ sym (row-taken c.args.layers.now c.args.row.from c.loop-k.k _ i.from c.at.ensures.value));
    }

pub returns : goal.returns
unfolding row_in
returns c = let t = c.loop-k-test.false in let i = c.loop-k.invariant in let e = c.loop-k.auto.k-end in
    i.nodes ∙ ap (λ z. nodes_of (drop c.args.row.from (take z c.args.layers.now))) (omega arith)
