use Rattle.std.proofs.Common.{arith, w64, ◌≡◌, to_z, of_z, subst, sym}
use Rattle.std.proofs.lemmas.Int.{ints}
use Rattle.adpcm_nums.specs.Sample.{IsSample}
use Rattle.window_floor.proofs.Quotients.{level-range, level-is}
use Rattle.window_floor.proofs.quantizer.Quantizer.level.Goals as goal

pub returns-clause-value : goal.returns-clause-value
returns-clause-value c =
    let low = c.args.self.low_is.low in let high = c.args.self.high_is.high in
    let range = level-range c.args.self.step c.args.n c.args.self.step_is.low c.args.self.step_is.high (omega (arith, ints, low, c.requires.low)) (omega (arith, ints, high, c.requires.high)) in
    let step : to_z w64 (of_z w64 c.args.self.step) ≡ c.args.self.step = omega (arith, ints) in
    let n : to_z w64 (of_z w64 c.args.n) ≡ c.args.n = omega (arith, ints) in
    level-is c.args.self.step c.args.n _ _ step n range

pub returns-clause-range : goal.returns-clause-range
returns-clause-range c =
    let low = c.args.self.low_is.low in let high = c.args.self.high_is.high in
    let range = level-range c.args.self.step c.args.n c.args.self.step_is.low c.args.self.step_is.high (omega (arith, ints, low, c.requires.low)) (omega (arith, ints, high, c.requires.high)) in
    subst IsSample (sym (returns-clause-value c)) range
