use Rattle.std.proofs.Common.{rules, arith, w32, w64, ◌≡◌, ◌*ℤ◌, ◌-ℤ◌}
use mir.Val.{SFits}
use Rattle.std.proofs.lemmas.Int.{ints, to_z-of_z}
use Rattle.block_bounds.proofs.products.rho.Goals as goal

pub returns-clause-value : goal.returns-clause-value
returns-clause-value c =
    let f1 : SFits w64 c.args.w.d = search rules in let f2 : SFits w64 c.args.w.ca = search rules in let f3 : SFits w64 c.args.w.cb = search rules in
    let f4 : SFits w32 c.args.r = c.ranges.r in let f5 : SFits w32 c.args.o = c.ranges.o in let f6 : SFits w32 c.args.x = c.ranges.x in
    let v : c.times.result ≡ c.args.w.d *ℤ c.args.x = simp to_z-of_z at c.times.ensures.value in
    let u : c.times-2.result ≡ c.args.w.ca *ℤ c.args.o = simp to_z-of_z at c.times-2.ensures.value in
    let t : c.times-3.result ≡ c.args.w.cb *ℤ c.args.r = simp to_z-of_z at c.times-3.ensures.value in
    let g1 : SFits w64 c.times.result = search rules in let g2 : SFits w64 c.times-2.result = search rules in let g3 : SFits w64 c.times-3.result = search rules in
    let l : c.less_two.result ≡ c.times.result -ℤ c.times-2.result -ℤ c.times-3.result = simp to_z-of_z at c.less_two.ensures.value in
    omega (arith, ints, v, u, t, l)

pub times-requires-3-clause-x_low : goal.times-requires-3-clause-x_low
times-requires-3-clause-x_low c = let l = c.args.w.cb_is.low in let h = c.args.w.cb_is.high in omega (arith, ints, l, h)
