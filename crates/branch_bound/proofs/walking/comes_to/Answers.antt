use Rattle.std.proofs.lemmas.Bool.{eqb-true, eqb-false}
use Rattle.branch_bound.proofs.Picks.{capped-way, capped-other}
use Rattle.branch_bound.proofs.walking.comes_to.Goals as goal

pub returns-clause-way : goal.returns-clause-way
returns-clause-way g c = λ t. capped-way c.args.s.now.most _ c.head_way.result c.args.left c.head_way.ensures (eqb-true _ _ t) c.requires.small

pub returns-clause-other : goal.returns-clause-other
returns-clause-other g c = λ f. capped-other c.args.s.now.most _ c.head_way.result c.args.left c.head_way.ensures (eqb-false _ _ f) c.requires.small
