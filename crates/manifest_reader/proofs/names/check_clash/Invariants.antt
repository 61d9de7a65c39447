use Rattle.std.proofs.Common.{◌≡◌, drop}
use Rattle.manifest_reader.specs.Names.{check_clash}
use Rattle.manifest_reader.proofs.names.check_clash.Given as goal

abbrev pub invariant-loop-sample : goal.invariant-loop-sample
invariant-loop-sample l = check_clash l.stored (drop l.sample-index l.samples) l.own ≡ check_clash l.stored l.samples l.own
