use Rattle.std.proofs.Common.{rules, arith, w64, ◌≡◌, ◌*ℤ◌, ◌-ℤ◌, to_z, of_z, ap, ◌∙◌}
use mir.Val.{SFits}
use Rattle.std.proofs.lemmas.Int.{ints, to_z-of_z}
use Rattle.adpcm_nums.specs.Nums.{square_of}
use Rattle.window_floor.specs.Numbers.{row_of}
use Rattle.window_floor.proofs.Sizes.{cost-small}
use Rattle.window_floor.proofs.MissLaws.{one-or-two, apart-is}
use Rattle.window_floor.proofs.floor.cost.Goals as goal

pub apart-requires-clause-scale : goal.apart-requires-clause-scale
apart-requires-clause-scale c = let fs : SFits w64 c.args.w.scale = search rules in simp to_z-of_z (one-or-two c.args.w.scale c.args.w.scale_is)

pub apart-requires-clause-value_low : goal.apart-requires-clause-value_low
apart-requires-clause-value_low c = omega (arith, ints)

pub apart-requires-clause-value_high : goal.apart-requires-clause-value_high
apart-requires-clause-value_high c = omega (arith, ints)

pub apart-requires-clause-target_low : goal.apart-requires-clause-target_low
apart-requires-clause-target_low c = omega (arith, ints)

pub apart-requires-clause-target_high : goal.apart-requires-clause-target_high
apart-requires-clause-target_high c = omega (arith, ints)

pub returns-clause-value : goal.returns-clause-value
returns-clause-value c =
    let fs : SFits w64 c.args.w.scale = search rules in let fa : SFits w64 c.apart.result = search rules in
    let output : to_z w64 (of_z w64 c.from.result) ≡ c.args.output = omega (arith, ints) in
    let target : to_z w64 (of_z w64 c.from-2.result) ≡ c.args.target = omega (arith, ints) in
    let apart : c.apart.result ≡ c.args.w.scale *ℤ to_z w64 (of_z w64 c.from.result) -ℤ to_z w64 (of_z w64 c.from-2.result) = simp to_z-of_z at c.apart.ensures.value in
    let square : c.square.result ≡ square_of c.apart.result = simp to_z-of_z at c.square.ensures in
    square ∙ ap square_of (apart-is c.args.w.scale _ _ _ _ _ output target apart)

pub returns-clause-small : goal.returns-clause-small
returns-clause-small c =
    let small = cost-small (row_of c.args.w) c.args.output c.args.target (one-or-two c.args.w.scale c.args.w.scale_is) c.requires.output c.requires.target in
    omega (arith, returns-clause-value c, small)
