use Rattle.std.proofs.Common.{rules, ◌≡◌, arith, ap, ◌∙◌, w64}
use Rattle.std.specs.Prelude.{◌≤ℤ◌}
use Rattle.std.specs.Int.{int_min, int_max}
use mir.Val.{SFits}
use Rattle.std.proofs.lemmas.Int.{ints, to_z-of_z}
use Rattle.window_floor.proofs.Quotients.{at-most}
use Rattle.window_floor.proofs.quantizer.Quantizer.within.Goals as goal

pub returns-clause-high : goal.returns-clause-high
returns-clause-high c =
    let n : SFits w64 c.args.n = c.ranges.n in let low : SFits w64 c.args.self.low = search rules in let high : SFits w64 c.args.self.high = search rules in
    let least : SFits w64 c.min.result = search rules in let most : SFits w64 c.max.result = search rules in
    let l = c.args.self.low_is.high in let h = c.args.self.high_is.low in
    let order : c.args.self.low ≤ℤ c.args.self.high = omega (arith, ints, l, h) in
    let min : c.min.result ≡ int_min c.args.n c.args.self.high = simp to_z-of_z at c.min.ensures.value in
    let max : c.max.result ≡ int_max c.min.result c.args.self.low = simp to_z-of_z at c.max.ensures.value in
    simp to_z-of_z (at-most c.args.self.low c.args.self.high c.args.n c.max.result order (max ∙ ap (λ z. int_max z c.args.self.low) min))
