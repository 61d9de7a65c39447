use Rattle.std.proofs.Common.{rules, arith, w64, ◌≡◌, pos, get_or}
use mir.Val.{SFits}
use Rattle.std.proofs.lemmas.Int.{to_z-of_z}
use Rattle.window_floor.specs.Numbers.{row_of}
use Rattle.window_floor.specs.Miss.{least_miss}
use Rattle.window_floor.proofs.FloorIs.{rho-is, floor-is}
use Rattle.window_floor.proofs.MissLaws.{kept_sample, kept_value}
use Rattle.window_floor.proofs.floor.linear_floor.Goals as goal

pub rho-rho-requires-clause-r : goal.rho-rho-requires-clause-r
rho-rho-requires-clause-r c = kept_sample c.args.targets 0 c.requires.targets (omega arith)

pub rho-rho-requires-clause-o : goal.rho-rho-requires-clause-o
rho-rho-requires-clause-o c = kept_sample c.args.targets 1 c.requires.targets (omega arith)

pub rho-rho-requires-clause-x : goal.rho-rho-requires-clause-x
rho-rho-requires-clause-x c = kept_sample c.args.targets 2 c.requires.targets (omega arith)

pub floor_at-requires-clause-target : goal.floor_at-requires-clause-target
floor_at-requires-clause-target c = kept_sample c.args.targets 2 c.requires.targets (omega arith)

pub returns-clause-value : goal.returns-clause-value
returns-clause-value c =
    let w = row_of c.args.w in let ends = c.args.ends in let targets = c.args.targets in
    let r = kept_value targets 0 c.requires.targets (omega arith) in let o = kept_value targets 1 c.requires.targets (omega arith) in
    let x = kept_value targets 2 c.requires.targets (omega arith) in
    let fits : SFits w64 c.rho-rho.result = search rules in
    let miss : c.at_sample.result ≡ least_miss w c.rho-rho.result c.args.samples.now = simp to_z-of_z at c.at_sample.ensures.value in
    floor-is w c.args.samples.now (get_or ends 0 (pos 0)) (get_or ends 1 (pos 0)) (get_or targets 0 (pos 0)) (get_or targets 1 (pos 0)) (get_or targets 2 (pos 0)) c.rho-rho.result
    _ c.at_sample.result c.floor_at.result (rho-is w _ _ _ _ _ _ c.rho-rho.result r o x c.rho-rho.ensures.value) miss x c.floor_at.ensures.value
