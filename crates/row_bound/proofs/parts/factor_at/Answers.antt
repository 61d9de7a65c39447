use Rattle.std.proofs.Common.{rules, w64, ap, ◌∙◌}
use Rattle.std.specs.Prelude.{pos, get_or}
use mir.Val.{SFits}
use Rattle.std.specs.Int.{int_min}
use Rattle.row_bound.proofs.Factors.{factor-past, factor-kept, kept}
use Rattle.row_bound.proofs.parts.factor_at.Goals as goal

pub returns-then-i-mus-clause-value : goal.returns-then-i-mus-clause-value
returns-then-i-mus-clause-value c =
    let fits : SFits w64 (get_or c.args.mus.now c.args.i (pos 0)) = search rules in
    let same = kept (get_or c.args.mus.now c.args.i (pos 0)) fits in
    let inner : SFits w64 c.min.result = search rules in
    factor-kept c.args.mus.now c.args.i c.min.result c.max.result (c.min.ensures.value ∙ ap (λ t. int_min t (pos 268435456)) same) c.max.ensures.value inner

pub returns-else-i-mus-clause-value : goal.returns-else-i-mus-clause-value
returns-else-i-mus-clause-value c = factor-past c.args.mus.now c.args.i c.if-i-mus.false
