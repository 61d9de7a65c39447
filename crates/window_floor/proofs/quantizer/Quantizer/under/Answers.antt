use Rattle.std.proofs.Common.{rules, arith, w64, ◌≡◌}
use Rattle.std.specs.Prelude.{◌≤ℤ◌, unsigned_abs}
use Rattle.std.specs.Int.{int_min, int_max}
use mir.Val.{SFits}
use Rattle.std.proofs.lemmas.Int.{ints, to_z-of_z}
use Rattle.adpcm_nums.specs.Nums.{floor_of}
use Rattle.window_floor.proofs.Quotients.{under-below, under-above}
use Rattle.window_floor.proofs.quantizer.Quantizer.under.Goals as goal

pub returns : goal.returns
returns c =
    let step : SFits w64 c.args.self.step = search rules in let fits : SFits w64 c.args.x = c.ranges.x in let quotient : SFits w64 c.floor_div.result = search rules in let number : SFits w64 c.within.result = search rules in
    let p = c.args.self.step_is.low in let l = c.args.self.low_is.high in let h = c.args.self.high_is.low in
    let q : c.floor_div.result ≡ floor_of c.args.x (unsigned_abs c.args.self.step) = simp to_z-of_z at c.floor_div.ensures in
    let r : c.within.result ≡ int_max (int_min c.floor_div.result c.args.self.high) c.args.self.low = simp to_z-of_z at c.within.ensures.value in
    let order : c.args.self.low ≤ℤ c.args.self.high = omega (arith, ints, l, h) in
    simp to_z-of_z (record {
      low = c.within.ensures.low;
      high = c.within.ensures.high;
      below = under-below c.args.self.step c.args.self.low c.args.self.high c.args.x c.floor_div.result c.within.result p q r;
      above = under-above c.args.self.step c.args.self.low c.args.self.high c.args.x c.floor_div.result c.within.result p order q r;
    })
