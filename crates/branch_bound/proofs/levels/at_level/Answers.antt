use Rattle.std.proofs.Common.{◌≤◌, arith, ap, sym, ◌∙◌, subst, List, refl}
use Rattle.machine_core.specs.Floors.{top}
use Rattle.open_cells.specs.declared.node.Node.{Node}
use Rattle.open_cells.specs.Nodes.{IsRising, listed_in}
use Rattle.open_cells.specs.Paths.{HasLaws}
use Rattle.branch_bound.proofs.Shown.{IsDone, first-rising, bound-is, later-first, shown-of}
use Rattle.branch_bound.proofs.levels.at_level.Goals as goal

pub listed-requires : goal.listed-requires
listed-requires g c =
    let m = g.M.Machine.rules c.args.machine.now in
    let laws : HasLaws m = record { machine = g.met.M.Machine.lawful c.args.machine.now; boxed = g.met.M.Machine.boxed c.args.machine.now; filed = c.requires.filed } in
    let fronts = c.in-Ok.v in let layers = c.in-Ok-all_values.v in
    let d : IsDone m c.args.targets.now c.args.blocks c.args.level c.args.most c.args.share fronts layers = record {
      laws = laws;
      some = c.requires.blocks;
      fronts_are = c.in-Ok.ensures.few;
      layers_are = c.in-Ok-all_values.ensures.values;
    } in
    subst (λ (z : List Node). IsRising z) (sym (c.as_slice.ensures.value ∙ c.in-Ok-row.ensures)) (first-rising m c.args.targets.now c.args.blocks c.args.level c.args.most c.args.share fronts layers d)

pub returns-clause-shown : goal.returns-clause-shown
returns-clause-shown g c =
    let m = g.M.Machine.rules c.args.machine.now in
    let laws : HasLaws m = record { machine = g.met.M.Machine.lawful c.args.machine.now; boxed = g.met.M.Machine.boxed c.args.machine.now; filed = c.requires.filed } in
    let fronts = c.in-Ok.v in let layers = c.in-Ok-all_values.v in
    let d : IsDone m c.args.targets.now c.args.blocks c.args.level c.args.most c.args.share fronts layers = record {
      laws = laws;
      some = c.requires.blocks;
      fronts_are = c.in-Ok.ensures.few;
      layers_are = c.in-Ok-all_values.ensures.values;
    } in
    let small : c.args.most ≤ top = omega arith in
    let o = c.listed.ensures ∙ ap (λ (z : List Node). listed_in z 65535 c.cell_of-start.result) (c.as_slice.ensures.value ∙ c.in-Ok-row.ensures) in
    shown-of m c.args.targets.now c.args.blocks c.args.level c.args.most c.args.share fronts _ d c.requires.fit c.requires.level refl refl
    (bound-is m c.args.targets.now c.args.blocks c.args.level c.args.most c.greater-bound.result _ layers c.cell_of-start.result c.listed.result laws c.requires.fit c.requires.most small
    c.greater-bound.ensures (later-first m c.args.targets.now c.args.blocks c.args.later.now c.requires.later) o c.cell_of-start.ensures)
