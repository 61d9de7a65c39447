use Rattle.std.proofs.Common.{◌∙◌, sym}
use Rattle.machine_core.specs.Floors.{allowed_floor, top}
use Rattle.adpcm_nums.proofs.LeastValueLaws.{least-none}
use Rattle.machine_core.proofs.LeastFloor.{least-allowed, least-forbidden}
use Rattle.linear_machine.proofs.least.least_floor.Goals as goal
use Rattle.linear_machine.proofs.least.least_floor.Goals.{then-allows, else-allows}

pub loop-head-init : goal.loop-head-init
loop-head-init g c = least-none (allowed_floor (g.H.HeadFloors.rules c.args.heads.now) c.args.rule c.args.targets.now) top

pub loop-head-preserved : goal.loop-head-preserved
loop-head-preserved g c =
    let r = g.H.HeadFloors.rules c.args.heads.now in
    elim c.if-allows.branch [
      | then-allows w ↦
          w.least-is ∙ w.min-least.ensures ∙ least-allowed r c.args.rule c.args.targets.now c.loop-head.head c.loop-head.least w.floor_below.result (sym c.allows.ensures ∙ w.if-allows.true) c.loop-head.invariant w.floor_below.ensures
      | else-allows w ↦
          w.least-is ∙ least-forbidden r c.args.rule c.args.targets.now c.loop-head.head c.loop-head.least (sym c.allows.ensures ∙ w.if-allows.false) c.loop-head.invariant
    ]
