use Rattle.std.proofs.Common.{rules, arith, w32, w64, ◌≡◌, ◌*ℤ◌}
use mir.Val.{SFits}
use Rattle.std.proofs.lemmas.Int.{ints, to_z-of_z}
use Rattle.window_floor.proofs.miss.filtered.Goals as goal

pub returns-clause-value : goal.returns-clause-value
returns-clause-value c =
    let fd : SFits w64 c.args.w.d = search rules in let fa : SFits w32 c.args.a = c.ranges.a in
    let v : c.times.result ≡ c.args.w.d *ℤ c.args.a = simp to_z-of_z at c.times.ensures.value in
    omega (arith, ints, v)

pub returns-clause-low : goal.returns-clause-low
returns-clause-low c = let l = c.args.w.bias_is.low in let h = c.args.w.bias_is.high in omega (arith, ints, l, h)

pub returns-clause-high : goal.returns-clause-high
returns-clause-high c = let l = c.args.w.bias_is.low in let h = c.args.w.bias_is.high in omega (arith, ints, l, h)
