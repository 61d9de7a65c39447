use Rattle.std.proofs.Common.{◌≡◌, ◌+◌}
use Rattle.adpcm_nums.specs.LeastValue.{least}
use Rattle.box_layers.specs.Certificates.{head_found}
use Rattle.block_steps.specs.Ways.{layers_certificate}
use Rattle.block_steps.proofs.finding.find_all.Given as goal

abbrev pub invariant-loop-h : goal.invariant-loop-h
invariant-loop-h g l = let m = g.M.Machine.rules l.machine in
    l.best ≡ least l.h (head_found m l.plan.targets.now (layers_certificate m l.plan.level l.plan.blocks (g.L.Layers.listed l.layers)) l.at.index l.lane l.cell) (l.slack + 1)
