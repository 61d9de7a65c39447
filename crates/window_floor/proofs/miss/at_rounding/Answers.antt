use Rattle.std.proofs.Common.{rules, arith, w32, w64, ◌≡◌, ◌≤◌, ℤ, ◌*ℤ◌, ◌-ℤ◌, ◌+ℤ◌, ◌≤ℤ◌, pos, unsigned_abs}
use mir.Val.{SFits}
use Rattle.std.proofs.lemmas.Int.{ints, to_z-of_z}
use Rattle.window_floor.specs.Numbers.{row_of}
use Rattle.window_floor.proofs.MissLaws.{rounded-is, one-or-two}
use Rattle.window_floor.proofs.miss.at_rounding.Goals as goal

pub apart-requires-clause-scale : goal.apart-requires-clause-scale
apart-requires-clause-scale c = let fs : SFits w64 c.args.w.scale = search rules in simp to_z-of_z (one-or-two c.args.w.scale c.args.w.scale_is)

pub distance_in-requires-clause-scale : goal.distance_in-requires-clause-scale
distance_in-requires-clause-scale c = let fs : SFits w64 c.args.w.scale = search rules in simp to_z-of_z (one-or-two c.args.w.scale c.args.w.scale_is)

pub distance_in-requires-clause-high : goal.distance_in-requires-clause-high
distance_in-requires-clause-high c = let h = c.args.w.errs_is.high in omega (arith, ints, h)

pub distance_in-requires-clause-target_low : goal.distance_in-requires-clause-target_low
distance_in-requires-clause-target_low c = let f : SFits w64 c.apart.result = search rules in let l = c.apart.ensures.low in omega (arith, ints, l)

pub distance_in-requires-clause-target_high : goal.distance_in-requires-clause-target_high
distance_in-requires-clause-target_high c = let f : SFits w64 c.apart.result = search rules in let l = c.apart.ensures.high in omega (arith, ints, l)

pub returns-clause-value : goal.returns-clause-value
returns-clause-value c =
    let f1 : SFits w64 c.args.w.scale = search rules in let f4 : SFits w64 c.args.w.errs = search rules in
    let f5 : SFits w64 c.args.rho = c.ranges.rho in let f6 : SFits w32 c.args.a = c.ranges.a in
    let f8 : SFits w64 c.filtered.result = search rules in let f9 : SFits w64 c.apart.result = search rules in
    let v : c.filtered.result ≡ c.args.w.d *ℤ c.args.a +ℤ c.args.w.bias = simp to_z-of_z at c.filtered.ensures.value in
    let t : c.apart.result ≡ c.args.w.scale *ℤ c.filtered.result -ℤ c.args.rho = simp to_z-of_z at c.apart.ensures.value in
    let l : (y : ℤ) → pos 0 ≤ℤ y → y ≤ℤ c.args.w.errs → c.distance_in.result ≤ unsigned_abs (c.args.w.scale *ℤ y -ℤ c.apart.result) = simp to_z-of_z at c.distance_in.ensures.least in
    let r : (y : ℤ) × (pos 0 ≤ℤ y) × (y ≤ℤ c.args.w.errs) × (c.distance_in.result ≡ unsigned_abs (c.args.w.scale *ℤ y -ℤ c.apart.result)) = simp to_z-of_z at c.distance_in.ensures.reached in
    let e : c.args.w.errs ≡ pos (unsigned_abs c.args.w.errs) = (let low = c.args.w.errs_is.low in omega (arith, ints, low)) in
    rounded-is (row_of c.args.w) c.args.rho c.args.a c.filtered.result c.apart.result c.args.w.errs c.distance_in.result e v t l r

pub returns-clause-small : goal.returns-clause-small
returns-clause-small c =
    let f1 : SFits w64 c.args.w.scale = search rules in let f4 : SFits w64 c.args.w.errs = search rules in let f9 : SFits w64 c.apart.result = search rules in
    let h = c.args.w.errs_is.low in
    let l = c.distance_in.ensures.least (pos 0) (omega (arith, ints)) (omega (arith, ints, h)) in omega (arith, ints, l)
