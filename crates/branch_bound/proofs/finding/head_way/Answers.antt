use Rattle.std.proofs.Common.{◌∙◌, ap, sym, subst, min, ◌+◌}
use Rattle.box_layers.specs.Certificates.{by_head}
use Rattle.block_steps.specs.Plans.{IsFrom}
use Rattle.block_steps.specs.Ways.{layers_certificate}
use Rattle.block_steps.specs.declared.plan.Plan.{Plan}
use Rattle.box_layers.specs.declared.key.Key.{Key}
use Rattle.open_cells.specs.Nodes.{listed_in}
use Rattle.branch_bound.specs.Worth.{layer_certificate}
use Rattle.branch_bound.proofs.Capped.{from_here}
use Rattle.branch_bound.proofs.finding.head_way.Goals as goal

pub head_way-requires-clause-from : goal.head_way-requires-clause-from
head_way-requires-clause-from g c =
    let m = g.M.Machine.rules c.args.machine.now in
    subst (λ (p : Plan). IsFrom m p c.args.at c.args.cell) (sym c.plan_of.ensures) (from_here m c.args.s.now c.args.at c.args.cell c.requires.search c.requires.at c.requires.cell)

pub returns : goal.returns
returns g c =
    let m = g.M.Machine.rules c.args.machine.now in
    let same = ap (λ (p : Plan). by_head m p.targets.now (layers_certificate m p.level p.blocks (λ (k : Key). listed_in c.args.next.now k.lane)) c.args.at.index c.args.cell c.args.head) c.plan_of.ensures in
    c.head_way.ensures ∙ (ap (min (c.saturating_sub-slack.result + 1)) same ∙ ap (λ z. min (z + 1) (by_head m c.args.s.now.targets.now (layer_certificate c.args.s.now.level c.args.s.now.blocks c.args.next.now) c.args.at.index c.args.cell c.args.head)) c.saturating_sub-slack.ensures)
