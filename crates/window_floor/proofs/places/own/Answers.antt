use Rattle.std.proofs.Common.{arith, sym, ◌∙◌}
use Rattle.std.proofs.lemmas.Bool.{eqb-true}
use Rattle.window_floor.specs.Numbers.{windows_of}
use Rattle.window_floor.proofs.CutLaws.{window-fits}
use Rattle.window_floor.proofs.MissLaws.{kept_value}
use Rattle.window_floor.proofs.PlaceLaws.{left-is}
use Rattle.window_floor.proofs.places.own.Goals as goal

pub window-requires-clause-inside : goal.window-requires-clause-inside
window-requires-clause-inside c =
    let begins = eqb-true _ _ (sym c.begins.ensures ∙ c.if-begins.true) in
    let fits = window-fits c.args.b.places c.size-size.result c.args.place (omega arith) begins in
    omega (arith, fits, c.requires.count)

pub returns-then-first_left-place-clause-value : goal.returns-then-first_left-place-clause-value
returns-then-first_left-place-clause-value c =
    let t = kept_value c.args.targets.now c.args.place c.requires.targets (omega arith) in
    λ samples levels. left-is (windows_of c.args.b samples) c.size-size.result c.args.place c.single.result c.args.targets.now _ c.size-size.ensures.value (omega arith) t c.single.ensures.value
