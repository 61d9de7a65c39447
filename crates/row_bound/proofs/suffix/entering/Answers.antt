use Rattle.std.proofs.Common.{arith, ap, ◌-◌, ◌∙◌}
use Rattle.row_bound.specs.declared.layer.Layer.{Layer}
use Rattle.row_bound.proofs.SuffixLaws.{any-at}
use Rattle.row_bound.proofs.suffix.entering.Goals as goal

pub returns-then-back-taps-clause-weight : goal.returns-then-back-taps-clause-weight
returns-then-back-taps-clause-weight c within any =
    c.open.ensures.weight ∙ ap (λ (l : Layer). l.base.weight) (any-at c.args.layers.now (c.args.j - c.args.back) c.index-layers-j.result any (omega arith))
