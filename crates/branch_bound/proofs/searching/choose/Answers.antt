use Rattle.std.proofs.Common.{◌≡◌, arith, ap, sym, ◌∙◌, Some, None, List, refl}
use Rattle.open_cells.specs.declared.node.Node.{Node}
use Rattle.open_cells.specs.Nodes.{listed_in}
use Rattle.open_cells.specs.Counts.{nodes_at}
use Rattle.branch_bound.specs.Searched.{blocks_of}
use Rattle.branch_bound.proofs.Shown.{level-at, bound-above, bound-below, bound-shut, walk-optimal, if-ok-both}
use Rattle.open_cells.specs.Paths.{HasLaws}
use Rattle.branch_bound.proofs.Onward.{ground-of}
use Rattle.branch_bound.proofs.searching.choose.Goals as goal
use Rattle.machine_core.specs.Cells.{cell_of}
use Rattle.machine_core.specs.Decoder.{start}
use Rattle.machine_core.specs.Rules.{grid}

pub returns-then-total-best-clause-optimal : goal.returns-then-total-best-clause-optimal
returns-then-total-best-clause-optimal g c =
    let m = g.M.Machine.rules c.args.machine.now in let laws : HasLaws m = record { machine = g.met.M.Machine.lawful c.args.machine.now; boxed = g.met.M.Machine.boxed c.args.machine.now; filed = c.requires.filed } in let cert = c.args.cert.now in
    let start_listed : listed_in (nodes_at cert.layers 0) 65535 (cell_of (grid m) 0 start) ≡ Some c.in-Some.total =
    sym (c.listed.ensures ∙ (ap (λ (z : List Node). listed_in z 65535 c.cell_of-start.result) (c.as_slice.ensures.value ∙ c.in-Ok.ensures) ∙ ap (listed_in (nodes_at cert.layers 0) 65535) c.cell_of-start.ensures)) ∙ c.in-Some.is in
    if-ok-both c.walk.result c.walk.ensures.choice c.walk.ensures.sum
    (λ choice p q le. walk-optimal m laws c.args.targets.now c.args.blocks c.in-Some.total cert choice c.requires.shown.blocks_are c.requires.shown.cert c.requires.fit le p
    (bound-above m c.args.targets.now cert c.in-Some.total le c.requires.shown.cert start_listed) (omega arith))

pub returns-else-total-best-clause-optimal : goal.returns-else-total-best-clause-optimal
returns-else-total-best-clause-optimal g c =
    let m = g.M.Machine.rules c.args.machine.now in let laws : HasLaws m = record { machine = g.met.M.Machine.lawful c.args.machine.now; boxed = g.met.M.Machine.boxed c.args.machine.now; filed = c.requires.filed } in let cert = c.args.cert.now in
    let start_listed : listed_in (nodes_at cert.layers 0) 65535 (cell_of (grid m) 0 start) ≡ Some c.in-Some.total =
    sym (c.listed.ensures ∙ (ap (λ (z : List Node). listed_in z 65535 c.cell_of-start.result) (c.as_slice.ensures.value ∙ c.in-Ok.ensures) ∙ ap (listed_in (nodes_at cert.layers 0) 65535) c.cell_of-start.ensures)) ∙ c.in-Some.is in
    let more = c.if-total-best.false in
    λ le. (let below = bound-below m laws c.args.targets.now c.args.blocks cert c.requires.shown.blocks_are (level-at cert.level 0 le refl) c.requires.shown.cert c.requires.fit (blocks_of c.args.best) c.requires.best.legal in
    let s = c.requires.best.sum in
    let above = bound-above m c.args.targets.now cert c.in-Some.total le c.requires.shown.cert start_listed in omega arith)

pub returns-in-None-clause-optimal : goal.returns-in-None-clause-optimal
returns-in-None-clause-optimal g c =
    let m = g.M.Machine.rules c.args.machine.now in let laws : HasLaws m = record { machine = g.met.M.Machine.lawful c.args.machine.now; boxed = g.met.M.Machine.boxed c.args.machine.now; filed = c.requires.filed } in let cert = c.args.cert.now in
    let start_not : listed_in (nodes_at cert.layers 0) 65535 (cell_of (grid m) 0 start) ≡ None =
    sym (c.listed.ensures ∙ (ap (λ (z : List Node). listed_in z 65535 c.cell_of-start.result) (c.as_slice.ensures.value ∙ c.in-Ok.ensures) ∙ ap (listed_in (nodes_at cert.layers 0) 65535) c.cell_of-start.ensures)) ∙ c.in-None.is in
    λ le. (let below = bound-below m laws c.args.targets.now c.args.blocks cert c.requires.shown.blocks_are (level-at cert.level 0 le refl) c.requires.shown.cert c.requires.fit (blocks_of c.args.best) c.requires.best.legal in
    let s = c.requires.best.sum in
    let above = bound-shut m c.args.targets.now cert c.args.best.sum laws le c.requires.shown.cert (c.requires.shown.searched (λ e. omega arith)) start_not in omega arith)

pub walk-requires-clause-grounds : goal.walk-requires-clause-grounds
walk-requires-clause-grounds g c =
    let m = g.M.Machine.rules c.args.machine.now in
    let le = c.if-cert-ne0.false in
    ground-of m c.args.targets.now c.args.blocks c.args.best.sum c.args.share c.args.cert.now c.requires.shown (omega arith)
