use Rattle.std.proofs.Common.{◌≡◌, [], take, drop}
use Rattle.manifest_reader.specs.Names.{check_same}
use Rattle.manifest_reader.proofs.names.check_same.Given as goal

abbrev pub invariant-loop-i : goal.invariant-loop-i
invariant-loop-i l = check_same (take l.i l.samples) (drop l.i l.samples) ≡ check_same [] l.samples
