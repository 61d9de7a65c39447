use Rattle.std.proofs.Common.{refl, subst, sym}
use Rattle.row_bound.specs.Guards.{Stands}
use Rattle.row_bound.specs.declared.done.Side.{Side}
use Rattle.row_bound.proofs.DoneLaws.{up-closed, down-closed, told, count-as}
use Rattle.row_bound.proofs.pick.closed.Goals as goal

pub returns-in-Up-clause-searched : goal.returns-in-Up-clause-searched
returns-in-Up-clause-searched c steps v u ws layers layer w floor t ladder count within stands old tells h =
    up-closed steps v u ws layers layer c.args.done _ w floor t c.args.rises refl (sym count) refl ladder (subst (λ (s : Side). Stands steps layer c.args.done s w) c.in-Up.is stands) old tells c.if-rises.true h

pub returns-in-Down-clause-searched : goal.returns-in-Down-clause-searched
returns-in-Down-clause-searched c steps v u ws layers layer w floor t ladder count within stands old tells h =
    down-closed steps v u ws layers layer c.args.done _ w floor t c.args.rises refl refl refl (count-as c.args.done.low c.args.count _ count within) ladder
    (subst (λ (s : Side). Stands steps layer c.args.done s w) c.in-Down.is stands) old tells c.if-not-rises.true h

pub returns-in_default-clause-searched : goal.returns-in_default-clause-searched
returns-in_default-clause-searched c steps v u ws layers layer w floor t ladder count within stands old tells h =
    c.widened.ensures.searched steps v u ws layers layer w t stands old (told steps v u ws layers w floor t c.args.rises tells h)
