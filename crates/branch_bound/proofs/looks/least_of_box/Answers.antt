use Rattle.adpcm_nums.proofs.LeastValueLaws.{least-none}
use Rattle.machine_core.specs.Floors.{top}
use Rattle.branch_bound.specs.Worth.{row_worth}
use Rattle.branch_bound.proofs.looks.least_of_box.Goals as goal

pub loop-x-init : goal.loop-x-init
loop-x-init c = least-none (row_worth c.args.next.now c.args.lane c.args.unlisted c.args.low c.args.high) top
