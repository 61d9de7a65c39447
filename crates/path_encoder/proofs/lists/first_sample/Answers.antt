use Rattle.std.proofs.Common.{w32}
use mir.Val.{SFits}
use Rattle.std.proofs.lemmas.Int.{to_z-of_z}
use Rattle.beam_encoder.proofs.NearLaws.{taken_fits}
use Rattle.path_encoder.proofs.lists.first_sample.Goals as goal

pub returns : goal.returns
returns g c =
    let r = g.M.Machine.rules c.args.machine.now in
    let laws = g.met.M.Machine.lawful c.args.machine.now in
    let target : SFits w32 c.args.target = c.ranges.target in
    let is = simp to_z-of_z at c.take_nearest.ensures in
    taken_fits r laws c.args.head 0 _ c.args.target _ is c.requires.head laws.some_samples laws.start_fits
