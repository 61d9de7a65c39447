use Rattle.std.proofs.Common.{arith, w64, ◌≡◌, to_z, of_z}
use Rattle.std.proofs.lemmas.Int.{ints}
use Rattle.row_bound.proofs.Sizes.{product-is}
use Rattle.block_bounds.proofs.Sizes.{level-size}
use Rattle.block_bounds.proofs.steps.level_of.Goals as goal

pub returns-clause-value : goal.returns-clause-value
returns-clause-value c =
    let x : to_z w64 (of_z w64 c.args.step) ≡ c.args.step = omega (arith, ints) in
    let y : to_z w64 (of_z w64 c.args.n) ≡ c.args.n = omega (arith, ints) in
    product-is c.args.step c.args.n _ _ x y (omega (arith, level-size c.args.step c.args.n c.requires.step_low c.requires.step_high c.requires.n_low c.requires.n_high))

pub returns-clause-low : goal.returns-clause-low
returns-clause-low c = omega (arith, ints, returns-clause-value c, level-size c.args.step c.args.n c.requires.step_low c.requires.step_high c.requires.n_low c.requires.n_high)

pub returns-clause-high : goal.returns-clause-high
returns-clause-high c = omega (arith, ints, returns-clause-value c, level-size c.args.step c.args.n c.requires.step_low c.requires.step_high c.requires.n_low c.requires.n_high)
