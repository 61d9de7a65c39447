use Rattle.std.proofs.Common.{◌∙◌, ap, arith, ◌≡◌, ◌+◌}
use Rattle.adpcm_nums.specs.LeastValue.{least}
use Rattle.adpcm_nums.proofs.LeastValueLaws.{least-none}
use Rattle.box_layers.specs.Certificates.{head_found}
use Rattle.block_steps.specs.Ways.{layers_certificate}
use Rattle.block_steps.proofs.Capped.{capped-all}
use Rattle.block_steps.proofs.finding.find_all.Goals as goal

pub returns : goal.returns
returns g c =
    let m = g.M.Machine.rules c.args.machine.now in
    let p = c.args.plan.now in
    let f = head_found m p.targets.now (layers_certificate m p.level p.blocks (g.L.Layers.listed c.args.layers.now)) c.args.at.index c.args.lane c.args.cell in
    let h = c.heads-h-end.ensures in
    let e : c.loop-h.h ≡ m.decoder.heads = omega arith in
    capped-all m.decoder.heads f c.args.slack c.loop-h.best c.requires.slack (c.loop-h.invariant ∙ ap (λ n. least n f (c.args.slack + 1)) e)

pub loop-h-init : goal.loop-h-init
loop-h-init g c = least-none _ _
