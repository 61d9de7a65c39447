use Rattle.adpcm_nums.proofs.LeastValueLaws.{least-none}
use Rattle.machine_core.specs.Floors.{top}
use Rattle.branch_bound.specs.Worth.{cell_worth}
use Rattle.branch_bound.proofs.looks.least_of_row.Goals as goal

pub loop-y-init : goal.loop-y-init
loop-y-init c = least-none (cell_worth c.args.next.now c.args.lane c.args.unlisted c.args.low c.args.x) top
