use Rattle.std.proofs.Common.{arith, ◌≡◌, ◌≤◌, ℕ, sym, subst, ◌∙◌, ◌-ℤ◌, ◌*ℤ◌, to_z, of_z, w64}
use Rattle.std.proofs.lemmas.Int.{ints}
use Rattle.adpcm_nums.specs.Nums.{square_of}
use Rattle.adpcm_nums.proofs.SpanLaws.{distance_sq-least, distance_sq-reached, distance_sq-is, distance_sq-small}
use Rattle.adpcm_nums.proofs.span.Span.distance_sq.Goals as goal

pub overflow_mul-result : goal.overflow_mul-result
overflow_mul-result c =
    let lo : to_z w64 (of_z w64 c.from.result) ≡ c.args.self.lo = omega (arith, ints) in
    let hi : to_z w64 (of_z w64 c.from-2.result) ≡ c.args.self.hi = omega (arith, ints) in
    let scale : to_z w64 (of_z w64 c.from-3.result) ≡ c.args.scale = omega (arith, ints) in
    let target : to_z w64 (of_z w64 c.from-4.result) ≡ c.args.target = omega (arith, ints) in
    let value = distance_sq-is c.args.self.lo c.args.self.hi c.args.scale c.args.target _ _ _ _ c.distance_in-distance.result lo hi scale target c.distance_in-distance.ensures.value in
    let small = distance_sq-small c.args.self.lo c.args.self.hi c.args.scale c.args.target c.requires.scale c.args.self.order c.requires.lo c.requires.target in
    omega (arith, value, small)

pub returns-clause-value : goal.returns-clause-value
returns-clause-value c =
    let lo : to_z w64 (of_z w64 c.from.result) ≡ c.args.self.lo = omega (arith, ints) in
    let hi : to_z w64 (of_z w64 c.from-2.result) ≡ c.args.self.hi = omega (arith, ints) in
    let scale : to_z w64 (of_z w64 c.from-3.result) ≡ c.args.scale = omega (arith, ints) in
    let target : to_z w64 (of_z w64 c.from-4.result) ≡ c.args.target = omega (arith, ints) in
    distance_sq-is c.args.self.lo c.args.self.hi c.args.scale c.args.target _ _ _ _ c.distance_in-distance.result lo hi scale target c.distance_in-distance.ensures.value

pub returns-clause-least : goal.returns-clause-least
returns-clause-least c = λ y a b.
    subst (λ (n : ℕ). n ≤ square_of (c.args.scale *ℤ y -ℤ c.args.target)) (sym (returns-clause-value c)) (distance_sq-least c.args.self.lo c.args.self.hi c.args.scale c.args.target y c.requires.scale a b)

pub returns-clause-reached : goal.returns-clause-reached
returns-clause-reached c =
    let there = distance_sq-reached c.args.self.lo c.args.self.hi c.args.scale c.args.target c.args.self.order in
    (there.0, there.1, there.2, returns-clause-value c ∙ there.3)

pub returns-clause-small : goal.returns-clause-small
returns-clause-small c =
    let value = returns-clause-value c in
    let small = distance_sq-small c.args.self.lo c.args.self.hi c.args.scale c.args.target c.requires.scale c.args.self.order c.requires.lo c.requires.target in
    omega (arith, value, small)
