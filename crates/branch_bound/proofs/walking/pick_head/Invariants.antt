use Rattle.std.proofs.Common.{ℕ, ◌<◌, ◌≢◌}
use Rattle.branch_bound.specs.Worth.{layer_certificate}
use Rattle.branch_bound.proofs.walking.pick_head.Given as goal
use Rattle.box_layers.specs.Certificates.{head_found}

abbrev pub invariant-loop-h : goal.invariant-loop-h
invariant-loop-h g l = let m = g.M.Machine.rules l.machine in
    (k : ℕ) → k < l.h → head_found m l.s.targets.now (layer_certificate l.s.level l.s.blocks l.next) l.at.index l.lane l.cell k ≢ l.left
