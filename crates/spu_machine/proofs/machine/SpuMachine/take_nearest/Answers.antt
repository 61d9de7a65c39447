use Rattle.std.proofs.Common.{w32}
use mir.Val.{SFits}
use Rattle.std.proofs.lemmas.Int.{to_z-of_z}
use Rattle.spu_machine.specs.Spu.{spu_step}
use Rattle.spu_machine.proofs.machine.SpuMachine.take_nearest.Goals as goal

-- the place in the block does not count
pub returns : goal.returns
unfolding spu_step
returns c = let target : SFits w32 c.args.target = c.ranges.target in simp to_z-of_z at c.taken_from.ensures
