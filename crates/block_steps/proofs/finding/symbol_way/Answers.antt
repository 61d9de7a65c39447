use Rattle.std.proofs.Common.{◌∙◌, ap}
use Rattle.box_layers.specs.declared.key.Key.{Key}
use Rattle.block_steps.specs.Ways.{key_for}
use Rattle.block_steps.proofs.Steps.{symbol-same, key-is}
use Rattle.block_steps.proofs.finding.symbol_way.Goals as goal

pub returns : goal.returns
returns g c =
    let m = g.M.Machine.rules c.args.machine.now in
    let p = c.args.plan.now in
    let listed = g.L.Layers.listed c.args.layers.now in
    let e = c.cells_after-cells.ensures ∙ ap (λ (k : Key). listed k) (key-is m p.end c.args.at c.args.head c.next_after-after.result c.next_after-after.ensures) in
    c.symbol_found.ensures ∙ symbol-same m p.targets.now p.level p.blocks c.args.at.index c.args.head c.args.sym (λ i lane. g.L.Lane.LaneCells.listed c.cells_after-cells.result) (λ i lane. listed (key_for m i lane)) c.args.cell e
