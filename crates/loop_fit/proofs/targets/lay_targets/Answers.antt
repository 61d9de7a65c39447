use Rattle.std.proofs.Common.{rules, w32}
use Rattle.std.proofs.lemmas.Int.{to_z-of_z}
use mir.Val.{SFits}
use Rattle.loop_fit.proofs.TargetLists.{targets_more}
use Rattle.loop_fit.proofs.targets.lay_targets.Goals as goal

pub loop-i-preserved : goal.loop-i-preserved
loop-i-preserved c =
    let fits : SFits w32 c.target.result = search rules in
    let pushed = simp to_z-of_z at c.in_ok-push.ensures.ok in
    targets_more c.args.samples.now c.args.looped c.args.front c.loop-i.i c.loop-i.targets c.push.new.self c.target.result c.loop-i.invariant c.target.ensures.value pushed
