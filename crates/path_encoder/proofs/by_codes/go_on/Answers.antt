use Rattle.std.proofs.Common.{IsTrue, IfSome, Option, subst}
use Rattle.machine_core.specs.declared.taken.Taken.{Taken}
use Rattle.path_encoder.proofs.by_codes.go_on.Goals as goal

pub returns : goal.returns
returns c = λ d all fits.
    let Fits : Option Taken → Type 0 = λ o. IfSome o (λ t. IsTrue (d.is_state t.state)) in
    c.put.ensures d.is_state all (subst Fits c.in-Some.is fits)
