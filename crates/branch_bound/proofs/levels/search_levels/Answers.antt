use Rattle.std.proofs.Common.{◌≤◌, arith, refl}
use Rattle.machine_core.specs.Floors.{top}
use Rattle.open_cells.specs.Paths.{HasLaws}
use Rattle.branch_bound.proofs.Shown.{none-bound, later-first, floors-shown}
use Rattle.branch_bound.proofs.levels.search_levels.Goals as goal

pub returns-clause-shown : goal.returns-clause-shown
returns-clause-shown g c =
    let m = g.M.Machine.rules c.args.machine.now in
    let laws : HasLaws m = record { machine = g.met.M.Machine.lawful c.args.machine.now; boxed = g.met.M.Machine.boxed c.args.machine.now; filed = c.requires.filed } in
    let small : c.args.most ≤ top = omega arith in
    floors-shown m c.args.targets.now c.args.blocks c.args.most c.args.share _ _ laws c.requires.fit c.requires.most small (later-first m c.args.targets.now c.args.blocks c.args.later.now c.requires.later) refl refl refl c.new.ensures

pub returns-clause-floor_only : goal.returns-clause-floor_only
returns-clause-floor_only g c =
    let m = g.M.Machine.rules c.args.machine.now in
    let laws : HasLaws m = record { machine = g.met.M.Machine.lawful c.args.machine.now; boxed = g.met.M.Machine.boxed c.args.machine.now; filed = c.requires.filed } in
    let small : c.args.most ≤ top = omega arith in
    λ e. (none-bound m c.args.targets.now c.args.blocks 255 c.args.most _ c.new.result laws c.requires.fit c.requires.most small
    (later-first m c.args.targets.now c.args.blocks c.args.later.now c.requires.later) c.new.ensures).0
