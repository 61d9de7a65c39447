use Rattle.std.proofs.Common.{◌≡◌, map, take}
use Rattle.branch_bound.specs.Worth.{valued}
use Rattle.branch_bound.proofs.backward.value_layer.Given as goal

abbrev pub invariant-loop-x : goal.invariant-loop-x
invariant-loop-x g l = let m = g.M.Machine.rules l.machine in
    l.values.items ≡ map (valued m l.s.targets.now l.s.blocks l.s.level l.s.most l.at.index l.next) (take l.x-index l.front)
