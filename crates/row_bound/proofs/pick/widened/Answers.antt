use Rattle.std.proofs.Common.{refl, subst}
use Rattle.row_bound.specs.Guards.{Stands}
use Rattle.row_bound.specs.declared.done.Side.{Side}
use Rattle.row_bound.proofs.DoneLaws.{up-done, down-done}
use Rattle.row_bound.proofs.pick.widened.Goals as goal

pub returns-in-Up-clause-searched : goal.returns-in-Up-clause-searched
returns-in-Up-clause-searched c steps v u ws layers layer w t stands =
    up-done steps v u ws layers layer c.args.done _ w t refl refl refl (subst (λ (s : Side). Stands steps layer c.args.done s w) c.in-Up.is stands)

pub returns-in-Down-clause-searched : goal.returns-in-Down-clause-searched
returns-in-Down-clause-searched c steps v u ws layers layer w t stands =
    down-done steps v u ws layers layer c.args.done _ w t refl refl refl (subst (λ (s : Side). Stands steps layer c.args.done s w) c.in-Down.is stands)
