use Rattle.std.proofs.Common.{arith, w64, ◌≡◌, to_z, of_z}
use Rattle.std.proofs.lemmas.Int.{ints}
use Rattle.row_bound.proofs.Sizes.{end-size, product-is}
use Rattle.row_bound.proofs.multiply.at_end.Goals as goal

pub returns-clause-value : goal.returns-clause-value
returns-clause-value c =
    let x : to_z w64 (of_z w64 c.args.m) ≡ c.args.m = omega (arith, ints) in
    let y : to_z w64 (of_z w64 c.args.x) ≡ c.args.x = omega (arith, ints) in
    let s = end-size c.args.m c.args.x c.requires.m_low c.requires.m_high c.requires.x_low c.requires.x_high in
    product-is c.args.m c.args.x _ _ x y (omega (arith, s))

pub returns-clause-low : goal.returns-clause-low
returns-clause-low c = omega (arith, ints, returns-clause-value c, end-size c.args.m c.args.x c.requires.m_low c.requires.m_high c.requires.x_low c.requires.x_high)

pub returns-clause-high : goal.returns-clause-high
returns-clause-high c = omega (arith, ints, returns-clause-value c, end-size c.args.m c.args.x c.requires.m_low c.requires.m_high c.requires.x_low c.requires.x_high)
