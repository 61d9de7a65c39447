use Rattle.std.proofs.Common.{ℕ, ◌<◌, ◌≢◌}
use Rattle.branch_bound.specs.Worth.{layer_certificate}
use Rattle.branch_bound.proofs.walking.pick_symbol.Given as goal
use Rattle.box_layers.specs.Certificates.{by_symbol}

abbrev pub invariant-loop-sym : goal.invariant-loop-sym
invariant-loop-sym g l = let m = g.M.Machine.rules l.machine in
    (k : ℕ) → k < l.sym → by_symbol m l.s.targets.now (layer_certificate l.s.level l.s.blocks l.next) l.at.index l.cell l.head k ≢ l.left
