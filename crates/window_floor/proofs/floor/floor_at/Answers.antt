use Rattle.std.proofs.Common.{arith, w32, ◌≡◌, pos, get_or, to_z, of_z}
use Rattle.std.proofs.lemmas.Int.{ints}
use Rattle.window_floor.specs.Numbers.{row_of}
use Rattle.window_floor.proofs.FloorIs.{cost-is, clamped-is}
use Rattle.window_floor.proofs.MissLaws.{kept_sample, kept_value, one-or-two}
use Rattle.window_floor.proofs.Sizes.{clamped-small}
use Rattle.window_floor.proofs.floor.floor_at.Goals as goal

pub cost-requires-clause-output : goal.cost-requires-clause-output
cost-requires-clause-output c = kept_sample c.args.ends 0 c.requires.ends (omega arith)

pub cost-requires-2-clause-output : goal.cost-requires-2-clause-output
cost-requires-2-clause-output c = kept_sample c.args.ends 1 c.requires.ends (omega arith)

pub returns-clause-value : goal.returns-clause-value
returns-clause-value c =
    let w = row_of c.args.w in let ends = c.args.ends in
    let first = kept_value ends 0 c.requires.ends (omega arith) in let second = kept_value ends 1 c.requires.ends (omega arith) in
    let x : to_z w32 (of_z w32 c.args.target) ≡ c.args.target = omega (arith, ints) in
    clamped-is w c.args.miss (get_or ends 0 (pos 0)) (get_or ends 1 (pos 0)) c.args.target c.shared.result c.cost.result c.cost-2.result c.min-clamped.result c.min.result
    c.shared.ensures (cost-is w _ _ _ _ c.cost.result first x c.cost.ensures.value) (cost-is w _ _ _ _ c.cost-2.result second x c.cost-2.ensures.value) c.min-clamped.ensures c.min.ensures

pub returns-clause-small : goal.returns-clause-small
returns-clause-small c =
    let small = clamped-small (row_of c.args.w) c.args.miss (get_or c.args.ends 0 (pos 0)) (get_or c.args.ends 1 (pos 0)) c.args.target
    (one-or-two c.args.w.scale c.args.w.scale_is) (c.requires.ends 0 (pos 0) (omega arith)) c.requires.target in
    omega (arith, returns-clause-value c, small)
