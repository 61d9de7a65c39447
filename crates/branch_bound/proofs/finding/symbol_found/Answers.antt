use Rattle.std.proofs.Common.{◌∙◌, ap, sym, subst}
use Rattle.box_layers.specs.Certificates.{by_symbol}
use Rattle.block_steps.specs.Plans.{IsFrom}
use Rattle.block_steps.specs.Ways.{layers_certificate}
use Rattle.block_steps.specs.declared.plan.Plan.{Plan}
use Rattle.box_layers.specs.declared.key.Key.{Key}
use Rattle.open_cells.specs.Nodes.{listed_in}
use Rattle.branch_bound.proofs.Capped.{from_here}
use Rattle.branch_bound.proofs.finding.symbol_found.Goals as goal

pub symbol_way-requires-clause-from : goal.symbol_way-requires-clause-from
symbol_way-requires-clause-from g c =
    let m = g.M.Machine.rules c.args.machine.now in
    subst (λ (p : Plan). IsFrom m p c.args.at c.args.cell) (sym c.plan_of.ensures) (from_here m c.args.s.now c.args.at c.args.cell c.requires.search c.requires.at c.requires.cell)

pub returns : goal.returns
returns g c =
    let m = g.M.Machine.rules c.args.machine.now in
    let same = ap (λ (p : Plan). by_symbol m p.targets.now (layers_certificate m p.level p.blocks (λ (k : Key). listed_in c.args.next.now k.lane)) c.args.at.index c.args.cell c.args.head c.args.sym) c.plan_of.ensures in
    c.symbol_way.ensures ∙ same
