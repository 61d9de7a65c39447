use Rattle.std.proofs.Common.{rules, arith, w32, w64, ◌≡◌, to_z, of_z, ap, sym, ◌∙◌}
use Rattle.std.specs.Prelude.{pos, ◌-ℤ◌, ◌*ℤ◌, get_or}
use mir.Val.{SFits}
use Rattle.std.proofs.lemmas.Int.{ints, to_z-of_z}
use Rattle.block_bounds.proofs.ReachLaws.{over-past}
use Rattle.block_bounds.proofs.place.over_row.Goals as goal

pub returns-clause-over : goal.returns-clause-over
returns-clause-over c samples stand =
    let b = c.args.b in
    let base = c.args.base in
    let fx : SFits w32 c.args.x = c.ranges.x in
    let fr : SFits w32 c.upper_reach.result = search rules in
    let fe : SFits w64 base.high = search rules in
    let value : c.past-high.result ≡ base.high -ℤ b.row.d *ℤ (b.row.scale *ℤ c.upper_reach.result -ℤ c.args.x) = simp to_z-of_z at c.past-high.ensures.value in
    let held : to_z w64 (of_z w64 c.past-high.result) ≡ c.past-high.result = omega (arith, ints, c.past-high.ensures.low, c.past-high.ensures.high) in
    let end = c.known_row.ensures.high ∙ (held ∙ (value ∙ ap (λ t. base.high -ℤ t *ℤ (b.row.scale *ℤ c.upper_reach.result -ℤ c.args.x)) (sym c.requires.d))) in
    let far = c.known_row.ensures.low in
    record {
      known = simp to_z-of_z at c.known_row.ensures.known;
      past = λ i h.
          let n = stand.are i h in
          over-past base.high base.d b.row.scale c.args.x b.levels.step n.0 b.levels.high (get_or samples i (pos 0)) c.upper_reach.result c.known_row.result.high base.d_is.low (omega (arith, ints, b.row.scale_is.low)) (omega (arith, ints, b.levels.step_is.low)) n.2 n.3 c.upper_reach.ensures.value end;
      far = omega (arith, ints, far);
    }
