use Rattle.std.proofs.Common.{arith, ◌+◌}
use Rattle.window_floor.specs.Numbers.{windows_of}
use Rattle.window_floor.proofs.MissLaws.{kept_sample, kept_value}
use Rattle.window_floor.proofs.PlaceLaws.{at-one, at-two, at-three}
use Rattle.window_floor.proofs.places.window.Goals as goal

pub one-requires : goal.one-requires
one-requires c = kept_sample c.args.targets.now c.args.place c.requires.targets (omega arith)

pub two-requires-clause-o : goal.two-requires-clause-o
two-requires-clause-o c = kept_sample c.args.targets.now c.args.place c.requires.targets (omega arith)

pub two-requires-clause-x : goal.two-requires-clause-x
two-requires-clause-x c = kept_sample c.args.targets.now (c.args.place + 1) c.requires.targets (omega arith)

pub three-requires-clause-r : goal.three-requires-clause-r
three-requires-clause-r c = kept_sample c.args.targets.now c.args.place c.requires.targets (omega arith)

pub three-requires-clause-o : goal.three-requires-clause-o
three-requires-clause-o c = kept_sample c.args.targets.now (c.args.place + 1) c.requires.targets (omega arith)

pub three-requires-clause-x : goal.three-requires-clause-x
three-requires-clause-x c = kept_sample c.args.targets.now (c.args.place + 2) c.requires.targets (omega arith)

pub returns-in-1-clause-value : goal.returns-in-1-clause-value
returns-in-1-clause-value c =
    let targets = c.args.targets.now in
    let x = kept_value targets c.args.place c.requires.targets (omega arith) in
    λ samples levels. at-one (windows_of c.args.b samples) c.args.size c.args.place c.one.result targets _ c.in-1.is x (c.one.ensures.value samples levels)

pub returns-in-2-clause-value : goal.returns-in-2-clause-value
returns-in-2-clause-value c =
    let targets = c.args.targets.now in
    let o = kept_value targets c.args.place c.requires.targets (omega arith) in
    let x = kept_value targets (c.args.place + 1) c.requires.targets (omega arith) in
    λ samples levels. at-two (windows_of c.args.b samples) c.args.size c.args.place c.two.result targets _ _ c.in-2.is o x (c.two.ensures.value samples levels)

pub returns-in_default-clause-value : goal.returns-in_default-clause-value
returns-in_default-clause-value c =
    let targets = c.args.targets.now in
    let r = kept_value targets c.args.place c.requires.targets (omega arith) in
    let o = kept_value targets (c.args.place + 1) c.requires.targets (omega arith) in
    let x = kept_value targets (c.args.place + 2) c.requires.targets (omega arith) in
    λ samples levels. at-three (windows_of c.args.b samples) c.args.size c.args.place c.three.result targets _ _ _ (omega arith) r o x (c.three.ensures.value samples levels)
