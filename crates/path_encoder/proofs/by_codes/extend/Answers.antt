use Rattle.std.proofs.Common.{sym, subst}
use Rattle.path_encoder.specs.Paths.{AreStates}
use Rattle.path_encoder.proofs.by_codes.extend.Goals as goal

pub returns : goal.returns
returns g c =
    let d = (g.M.Machine.rules c.args.machine.now).decoder in
    c.put_all.ensures d c.requires.made (subst (AreStates d) (sym c.as_slice-2.ensures.value) c.loop-place.invariant)
