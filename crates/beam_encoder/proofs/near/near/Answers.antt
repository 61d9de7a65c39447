use Rattle.std.proofs.Common.{ap, w32}
use mir.Val.{SFits}
use Rattle.std.proofs.lemmas.Int.{to_z-of_z}
use Rattle.machine_core.specs.declared.taken.Taken.{Taken}
use Rattle.beam_encoder.proofs.NearLaws.{taken_fits, taken_steps, taken_costs}
use Rattle.beam_encoder.proofs.near.near.Goals as goal

pub returns : goal.returns
returns g c =
    let r = g.M.Machine.rules c.args.machine.now in
    let target : SFits w32 c.args.target = c.ranges.target in
    let is = simp to_z-of_z at c.take_nearest.ensures in
    let laws = g.met.M.Machine.lawful c.args.machine.now in record {
      symbol = ap (λ (t : Taken). t.symbol) is;
      state = taken_steps r.decoder c.args.head c.args.pos c.args.from c.args.target _ is;
      cost = taken_costs r.decoder c.args.head c.args.pos c.args.from c.args.target _ is;
      fits = taken_fits r laws c.args.head c.args.pos c.args.from c.args.target _ is c.requires.head c.requires.pos c.requires.from;
    }
