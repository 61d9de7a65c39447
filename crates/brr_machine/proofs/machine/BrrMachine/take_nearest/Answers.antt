use Rattle.std.proofs.Common.{w32}
use mir.Val.{SFits}
use Rattle.std.proofs.lemmas.Int.{to_z-of_z}
use Rattle.brr_machine.specs.Brr.{brr_step}
use Rattle.brr_machine.proofs.machine.BrrMachine.take_nearest.Goals as goal

-- the place in the block does not count
pub returns : goal.returns
unfolding brr_step
returns c = let target : SFits w32 c.args.target = c.ranges.target in simp to_z-of_z at c.taken_from.ensures
