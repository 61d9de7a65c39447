use Rattle.std.proofs.Common.{rules, arith, ap, sym, subst, ◌∙◌, ◌≡◌, ◌≤◌, ℕ, ◌*ℤ◌, ◌-ℤ◌, ◌≤ℤ◌, unsigned_abs, to_z, of_z, w64}
use mir.Val.{SFits}
use Rattle.std.proofs.lemmas.Int.{ints, to_z-of_z}
use Rattle.adpcm_nums.specs.Nearest.{nearest_of}
use Rattle.adpcm_nums.proofs.NearestLaws.{distance-least, distance-is}
use Rattle.adpcm_nums.proofs.nearest.distance_in.Goals as goal

pub returns : goal.returns
returns c =
    let fl : SFits w64 c.args.lo = c.ranges.lo in let fh : SFits w64 c.args.hi = c.ranges.hi in
    let fs : SFits w64 c.args.scale = c.ranges.scale in let ft : SFits w64 c.args.target = c.ranges.target in
    let fn : SFits w64 c.nearest.result = search rules in
    let m : c.multiple.result ≡ c.args.scale *ℤ c.nearest.result = simp to_z-of_z at c.multiple.ensures.value in
    let n : c.nearest.result ≡ nearest_of c.args.lo c.args.hi c.args.scale c.args.target = simp to_z-of_z at c.nearest.ensures.value in
    let l : c.args.lo ≤ℤ c.nearest.result = simp to_z-of_z at c.nearest.ensures.low in
    let h : c.nearest.result ≤ℤ c.args.hi = simp to_z-of_z at c.nearest.ensures.high in
    let same : to_z w64 (of_z w64 (to_z w64 (of_z w64 c.multiple.result) -ℤ to_z w64 (of_z w64 c.args.target))) ≡ c.multiple.result -ℤ c.args.target = omega (arith, ints) in
    let distance : c.unsigned_abs.result ≡ unsigned_abs (c.multiple.result -ℤ c.args.target) = c.unsigned_abs.ensures.value ∙ ap unsigned_abs same in
    let value = distance-is c.args.lo c.args.hi c.args.scale c.args.target _ _ _ n m distance in
    record {
      value = value;
      least = λ y a b. subst (λ (z : ℕ). z ≤ unsigned_abs (c.args.scale *ℤ y -ℤ c.args.target)) (sym value) (distance-least c.args.lo c.args.hi c.args.scale c.args.target y c.requires.scale a b);
      reached = (c.nearest.result, l, h, distance ∙ ap (λ x. unsigned_abs (x -ℤ c.args.target)) m);
    }
