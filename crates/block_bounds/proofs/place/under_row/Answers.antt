use Rattle.std.proofs.Common.{rules, arith, w32, w64, ◌≡◌, to_z, of_z, ap, sym, ◌∙◌}
use Rattle.std.specs.Prelude.{pos, ◌-ℤ◌, ◌*ℤ◌, get_or}
use mir.Val.{SFits}
use Rattle.std.proofs.lemmas.Int.{ints, to_z-of_z}
use Rattle.block_bounds.proofs.ReachLaws.{under-past}
use Rattle.block_bounds.proofs.place.under_row.Goals as goal

pub returns-clause-under : goal.returns-clause-under
returns-clause-under c samples stand =
    let b = c.args.b in
    let base = c.args.base in
    let fx : SFits w32 c.args.x = c.ranges.x in
    let fr : SFits w32 c.lower_reach.result = search rules in
    let fe : SFits w64 base.low = search rules in
    let value : c.past-low.result ≡ base.low -ℤ b.row.d *ℤ (b.row.scale *ℤ c.lower_reach.result -ℤ c.args.x) = simp to_z-of_z at c.past-low.ensures.value in
    let held : to_z w64 (of_z w64 c.past-low.result) ≡ c.past-low.result = omega (arith, ints, c.past-low.ensures.low, c.past-low.ensures.high) in
    let end = c.known_row.ensures.low ∙ (held ∙ (value ∙ ap (λ t. base.low -ℤ t *ℤ (b.row.scale *ℤ c.lower_reach.result -ℤ c.args.x)) (sym c.requires.d))) in
    let far = c.known_row.ensures.high in
    record {
      known = simp to_z-of_z at c.known_row.ensures.known;
      past = λ i h.
          let n = stand.are i h in
          under-past base.low base.d b.row.scale c.args.x b.levels.step n.0 b.levels.low (get_or samples i (pos 0)) c.lower_reach.result c.known_row.result.low base.d_is.low (omega (arith, ints, b.row.scale_is.low)) (omega (arith, ints, b.levels.step_is.low)) n.1 n.3 c.lower_reach.ensures.value end;
      far = omega (arith, ints, far);
    }
