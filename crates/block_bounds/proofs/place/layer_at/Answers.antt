use Rattle.std.proofs.Common.{rules, arith, w32, w64, ◌≡◌, to_z, of_z, refl, ◌∙◌}
use Rattle.std.specs.Prelude.{◌-ℤ◌}
use mir.Val.{SFits}
use Rattle.std.proofs.lemmas.Int.{ints, to_z-of_z}
use Rattle.window_floor.proofs.MissLaws.{one-or-two}
use Rattle.window_floor.specs.Miss.{rho_of}
use Rattle.window_floor.specs.Numbers.{row_of, windows_of}
use Rattle.block_bounds.specs.Covers.{IsOverRow, IsUnderRow}
use Rattle.block_bounds.proofs.PlaceLaws.{end-is, less-natural, difference-held}
use Rattle.block_bounds.proofs.place.layer_at.Goals as goal

pub end_at-low-requires-clause-scale : goal.end_at-low-requires-clause-scale
end_at-low-requires-clause-scale c = let fs : SFits w64 c.args.b.row.scale = search rules in simp to_z-of_z (one-or-two c.args.b.row.scale c.args.b.row.scale_is)

pub end_at-high-requires-clause-scale : goal.end_at-high-requires-clause-scale
end_at-high-requires-clause-scale c = let fs : SFits w64 c.args.b.row.scale = search rules in simp to_z-of_z (one-or-two c.args.b.row.scale c.args.b.row.scale_is)

pub end_at-low-requires-clause-x_low : goal.end_at-low-requires-clause-x_low
end_at-low-requires-clause-x_low c = let w = c.args.b.row in omega (arith, ints, w.bias_is.low, w.bias_is.high, w.errs_is.low, w.errs_is.high)

pub end_at-low-requires-clause-x_high : goal.end_at-low-requires-clause-x_high
end_at-low-requires-clause-x_high c = let w = c.args.b.row in omega (arith, ints, w.bias_is.low, w.bias_is.high, w.errs_is.low, w.errs_is.high)

pub returns : goal.returns
returns c samples stand =
    let w = c.args.b.row in
    let f1 : SFits w64 w.scale = search rules in let f4 : SFits w32 c.args.r = c.ranges.r in let f5 : SFits w32 c.args.o = c.ranges.o in let f6 : SFits w32 c.args.x = c.ranges.x in
    let scale : to_z w64 (of_z w64 w.scale) ≡ w.scale = omega (arith, ints, w.scale_is.low, w.scale_is.high) in
    let bias : to_z w64 (of_z w64 w.bias) ≡ w.bias = omega (arith, ints, w.bias_is.low, w.bias_is.high) in
    let both : to_z w64 (of_z w64 (to_z w64 (of_z w64 w.bias) -ℤ to_z w64 (of_z w64 w.errs))) ≡ w.bias -ℤ w.errs = difference-held w.bias w.errs w.bias_is.low (omega (arith, ints, w.bias_is.high)) w.errs_is.low w.errs_is.high in
    let held : to_z w64 (of_z w64 c.rho-rho.result) ≡ c.rho-rho.result = omega (arith, ints, c.rho-rho.ensures.low, c.rho-rho.ensures.high) in
    let rho : c.rho-rho.result ≡ rho_of (row_of w) c.args.r c.args.o c.args.x = simp to_z-of_z at c.rho-rho.ensures.value in
    let low : to_z w64 (of_z w64 c.end_at-low.result) ≡ c.end_at-low.result = omega (arith, ints, c.end_at-low.ensures.low, c.end_at-low.ensures.high) in
    let high : to_z w64 (of_z w64 c.end_at-high.result) ≡ c.end_at-high.result = omega (arith, ints, c.end_at-high.ensures.low, c.end_at-high.ensures.high) in
    let over : IsOverRow (windows_of c.args.b samples) c.args.x c.base_row-base.result c.over_row.result = simp to_z-of_z at (c.over_row.ensures.over samples stand) in
    let under : IsUnderRow (windows_of c.args.b samples) c.args.x c.base_row-base.result c.under_row.result = simp to_z-of_z at (c.under_row.ensures.under samples stand) in
    record {
      older = c.requires.r;
      last = c.requires.o;
      d = c.base_row-base.ensures.d;
      a = c.base_row-base.ensures.a;
      b = c.base_row-base.ensures.b;
      low = end-is c.end_at-low.result _ w.scale _ (w.bias -ℤ w.errs) _ c.rho-rho.result _ _ _ (c.base_row-base.ensures.low ∙ low) c.end_at-low.ensures.value scale both held rho (less-natural w.bias w.errs w.errs_is.low);
      high = end-is c.end_at-high.result _ w.scale _ w.bias _ c.rho-rho.result _ _ _ (c.base_row-base.ensures.high ∙ high) c.end_at-high.ensures.value scale bias held rho refl;
      weighs = c.base_row-base.ensures.weight;
      first = over;
      second = under;
    }
