use Rattle.std.proofs.Common.{arith, w64, ◌≡◌, to_z, of_z}
use Rattle.std.proofs.lemmas.Int.{ints}
use Rattle.row_bound.proofs.Sizes.{scaled-size, product-is}
use Rattle.row_bound.proofs.multiply.scaled.Goals as goal

pub returns-clause-value : goal.returns-clause-value
returns-clause-value c =
    let x : to_z w64 (of_z w64 c.args.x) ≡ c.args.x = omega (arith, ints) in
    let y : to_z w64 (of_z w64 c.args.m) ≡ c.args.m = omega (arith, ints) in
    let s = scaled-size c.args.x c.args.m c.requires.x_low c.requires.x_high c.requires.m_low c.requires.m_high in
    product-is c.args.x c.args.m _ _ x y (omega (arith, s))

pub returns-clause-low : goal.returns-clause-low
returns-clause-low c = omega (arith, ints, returns-clause-value c, scaled-size c.args.x c.args.m c.requires.x_low c.requires.x_high c.requires.m_low c.requires.m_high)

pub returns-clause-high : goal.returns-clause-high
returns-clause-high c = omega (arith, ints, returns-clause-value c, scaled-size c.args.x c.args.m c.requires.x_low c.requires.x_high c.requires.m_low c.requires.m_high)
