use Rattle.std.proofs.Common.{rules, arith, w32, w64, ◌≡◌, to_z, of_z, refl, ◌∙◌}
use Rattle.std.specs.Prelude.{pos, get_or}
use mir.Val.{SFits}
use Rattle.std.proofs.lemmas.Int.{ints, to_z-of_z}
use Rattle.window_floor.proofs.MissLaws.{one-or-two, kept_sample, kept_value}
use Rattle.block_bounds.proofs.PlaceLaws.{error-as}
use Rattle.block_bounds.proofs.place.known_row.Goals as goal

pub invariant_of-result : goal.invariant_of-result
invariant_of-result c =
    let base = c.args.base in
    record {
      d_is = record { low = omega (arith, ints); high = omega (arith, ints) };
      a_is = record { low = omega (arith, ints, base.a_is.low, base.a_is.high); high = omega (arith, ints, base.a_is.low, base.a_is.high) };
      b_is = record { low = omega (arith, ints, base.b_is.low, base.b_is.high); high = omega (arith, ints, base.b_is.low, base.b_is.high) };
      low_is = record { low = omega (arith, ints, c.requires.low_small, c.requires.low_great); high = omega (arith, ints, c.requires.low_small, c.requires.low_great) };
      high_is = record { low = omega (arith, ints, c.requires.high_small, c.requires.high_great); high = omega (arith, ints, c.requires.high_small, c.requires.high_great) };
      weight_is = base.weight_is;
      weight_most = base.weight_most;
      out_is = record { low = omega (arith, ints, c.error.ensures.low, c.error.ensures.high); high = omega (arith, ints, c.error.ensures.low, c.error.ensures.high) };
    }

pub error-requires-clause-scale : goal.error-requires-clause-scale
error-requires-clause-scale c = let fs : SFits w64 c.args.b.row.scale = search rules in simp to_z-of_z (one-or-two c.args.b.row.scale c.args.b.row.scale_is)

pub error-requires-clause-y : goal.error-requires-clause-y
error-requires-clause-y c = kept_sample c.args.b.ends c.args.end c.args.b.ends_are (omega arith)

pub returns-clause-known : goal.returns-clause-known
returns-clause-known c =
    let b = c.args.b in
    let base = c.args.base in
    let scale : to_z w64 (of_z w64 b.row.scale) ≡ b.row.scale = omega (arith, ints, b.row.scale_is.low, b.row.scale_is.high) in
    let x : to_z w32 (of_z w32 c.args.x) ≡ c.args.x = omega (arith, ints) in
    let out = error-as b.row.scale (get_or b.ends c.args.end (pos 0)) c.args.x _ _ _ c.error.result scale (kept_value b.ends c.args.end b.ends_are (omega arith)) x c.error.ensures.value in
    let held : to_z w64 (of_z w64 c.error.result) ≡ c.error.result = omega (arith, ints, c.error.ensures.low, c.error.ensures.high) in
    record {
      d = refl;
      a = omega (arith, ints, base.a_is.low, base.a_is.high);
      b = omega (arith, ints, base.b_is.low, base.b_is.high);
      out = held ∙ out;
    }
