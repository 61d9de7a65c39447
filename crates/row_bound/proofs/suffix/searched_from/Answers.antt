use Rattle.row_bound.proofs.SuffixLaws.{charged, from-slice}
use Rattle.row_bound.proofs.suffix.searched_from.Goals as goal

pub returns-clause-owes : goal.returns-clause-owes
returns-clause-owes c =
    let steps = c.args.steps.now in
    let layers = c.args.layers.now in
    let v = c.entering-v.result in
    let u = c.entering-u.result in
    charged steps v u layers c.args.j c.args.taps c.root.result c.index-layers-j.result c.layer_after-following.result c.index-layers-j.is c.layer_after-following.ensures (c.is_alone.ensures c.if-not-is_alone.false)
    c.entering-v.ensures.weight c.entering-u.ensures.weight c.requires.taps c.requires.j_low c.requires.j_high (from-slice steps v u layers c.args.j c.root.result c.root.ensures.owes)
