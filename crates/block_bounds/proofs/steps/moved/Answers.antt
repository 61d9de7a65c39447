use Rattle.std.proofs.Common.{rules, arith, w64, ◌≡◌, to_z, of_z, ◌∙◌}
use mir.Val.{SFits}
use Rattle.std.proofs.lemmas.Int.{ints, to_z-of_z}
use Rattle.window_floor.proofs.MissLaws.{one-or-two}
use Rattle.block_bounds.proofs.StepLaws.{moved-is}
use Rattle.block_bounds.proofs.steps.moved.Goals as goal

pub multiple-requires-clause-scale : goal.multiple-requires-clause-scale
multiple-requires-clause-scale c = let fs : SFits w64 c.args.b.row.scale = search rules in simp to_z-of_z (one-or-two c.args.b.row.scale c.args.b.row.scale_is)

pub multiple-requires-clause-low : goal.multiple-requires-clause-low
multiple-requires-clause-low c = omega (arith, ints, c.scaled-part.ensures.low, c.scaled-part.ensures.high)

pub multiple-requires-clause-high : goal.multiple-requires-clause-high
multiple-requires-clause-high c = omega (arith, ints, c.scaled-part.ensures.low, c.scaled-part.ensures.high)

pub returns-clause-value : goal.returns-clause-value
returns-clause-value c =
    let b = c.args.b in
    let scale : to_z w64 (of_z w64 b.row.scale) ≡ b.row.scale = omega (arith, ints, b.row.scale_is.low, b.row.scale_is.high) in
    let d : to_z w64 (of_z w64 b.row.d) ≡ b.row.d = omega (arith, ints, b.row.d_is.low, b.row.d_is.high) in
    let step : to_z w64 (of_z w64 b.levels.step) ≡ b.levels.step = omega (arith, ints, b.levels.step_is.low, b.levels.step_is.high) in
    let n : to_z w64 (of_z w64 c.args.n) ≡ c.args.n = omega (arith, ints, c.requires.n_low, c.requires.n_high) in
    let k : to_z w64 (of_z w64 c.args.k) ≡ c.args.k = omega (arith, ints, c.requires.k_low, c.requires.k_high) in
    let level : to_z w64 (of_z w64 c.level_of-level.result) ≡ c.level_of-level.result = omega (arith, ints, c.level_of-level.ensures.low, c.level_of-level.ensures.high) in
    let lower : to_z w64 (of_z w64 c.lowered.result) ≡ c.lowered.result = omega (arith, ints, c.lowered.ensures.low, c.lowered.ensures.high) in
    let part : to_z w64 (of_z w64 c.scaled-part.result) ≡ c.scaled-part.result = omega (arith, ints, c.scaled-part.ensures.low, c.scaled-part.ensures.high) in
    let whole : to_z w64 (of_z w64 c.multiple.result) ≡ c.multiple.result = omega (arith, ints, c.multiple.ensures.low, c.multiple.ensures.high) in
    whole ∙ moved-is b c.args.n c.args.k c.multiple.result c.scaled-part.result c.lowered.result c.level_of-level.result _ _ _ _ _ _ _ _ scale d step n k level lower part c.level_of-level.ensures.value c.lowered.ensures.value c.scaled-part.ensures.value c.multiple.ensures.value
