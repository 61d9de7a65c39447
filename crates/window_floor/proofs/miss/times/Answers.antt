use Rattle.std.proofs.Common.{arith, w64, ◌≡◌, to_z, of_z}
use Rattle.std.proofs.lemmas.Int.{ints}
use Rattle.window_floor.proofs.Products.{product-small, product-is}
use Rattle.window_floor.proofs.miss.times.Goals as goal

pub returns-clause-value : goal.returns-clause-value
returns-clause-value c =
    let x : to_z w64 (of_z w64 c.args.x) ≡ c.args.x = omega (arith, ints) in
    let y : to_z w64 (of_z w64 c.from.result) ≡ c.args.y = omega (arith, ints) in
    product-is c.args.x c.args.y _ _ x y c.requires.x c.requires.y

pub returns-clause-low : goal.returns-clause-low
returns-clause-low c = omega (arith, ints, returns-clause-value c, product-small c.args.x c.args.y c.requires.x c.requires.y)

pub returns-clause-high : goal.returns-clause-high
returns-clause-high c = omega (arith, ints, returns-clause-value c, product-small c.args.x c.args.y c.requires.x c.requires.y)
