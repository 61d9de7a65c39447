use Rattle.std.proofs.Common.{sym, ◌∙◌, arith, min}
use Rattle.std.proofs.lemmas.Bool.{cond-true}
use Rattle.box_layers.proofs.looking.look.Goals as goal

pub returns-then-seen : goal.returns-then-seen
returns-then-seen g c =
    sym (cond-true c.see_ahead-seen.result.all c.see_ahead-seen.result.best (min c.see_ahead-seen.result.best c.args.rest) c.if-seen.true) ∙ c.see_ahead-seen.ensures c.args.rest (omega arith)
