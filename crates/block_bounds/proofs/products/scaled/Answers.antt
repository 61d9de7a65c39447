use Rattle.std.proofs.Common.{arith, w64, ◌≡◌, to_z, of_z}
use Rattle.std.proofs.lemmas.Int.{ints}
use Rattle.row_bound.proofs.Sizes.{product-is}
use Rattle.block_bounds.proofs.Sizes.{scaled-size}
use Rattle.block_bounds.proofs.products.scaled.Goals as goal

pub returns-clause-value : goal.returns-clause-value
returns-clause-value c =
    let x : to_z w64 (of_z w64 c.args.x) ≡ c.args.x = omega (arith, ints) in
    let y : to_z w64 (of_z w64 c.args.y) ≡ c.args.y = omega (arith, ints) in
    product-is c.args.x c.args.y _ _ x y (omega (arith, scaled-size c.args.x c.args.y c.requires.x_low c.requires.x_high c.requires.y_low c.requires.y_high))

pub returns-clause-low : goal.returns-clause-low
returns-clause-low c = omega (arith, ints, returns-clause-value c, scaled-size c.args.x c.args.y c.requires.x_low c.requires.x_high c.requires.y_low c.requires.y_high)

pub returns-clause-high : goal.returns-clause-high
returns-clause-high c = omega (arith, ints, returns-clause-value c, scaled-size c.args.x c.args.y c.requires.x_low c.requires.x_high c.requires.y_low c.requires.y_high)
