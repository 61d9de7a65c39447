use Rattle.std.proofs.Common.{◌≡◌, ◌++◌, map, take}
use Rattle.std.specs.List.{flat_map}
use Rattle.manifest_reader.specs.Stored.{joined, image_names, stored_endings}
use Rattle.manifest_reader.proofs.stored.stored_names.Given as goal

abbrev pub invariant-loop-sample : goal.invariant-loop-sample
invariant-loop-sample l = l.names.items ≡ image_names l.kind l.bank ++ flat_map (λ s. map (joined l.bank s.name) (stored_endings l.kind)) (take l.sample-index l.samples)
